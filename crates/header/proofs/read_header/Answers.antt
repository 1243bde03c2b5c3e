-- `header::read_header` meets its contract: the length is tested before the walk. Assumes nothing.
use native.Mathlib.Omega.{arith}
use lib.ListN.{length}
use borrow.Author.Tests.{lt-ltb, le-ltb}
use Rattle.header.specs.Headers.{header_of}
use Rattle.header.proofs.read_header.Goals as goal

pub returns-then-container-gt-LONGEST : goal.returns-then-container-gt-LONGEST
unfolding header_of
returns-then-container-gt-LONGEST c =
    let s = c.args.container.now in
    rw (c.refused.ensures, lt-ltb 0x40000000 (length s) (omega arith))

pub returns : goal.returns
unfolding header_of
returns c =
    let s = c.args.container.now in
    rw (le-ltb 0x40000000 (length s) (omega arith), c.step_1.ensures)
