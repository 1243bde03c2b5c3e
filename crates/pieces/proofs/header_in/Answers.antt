-- `pieces::header_in` meets its contract: the length is tested before the beginning. Assumes nothing.
use borrow.Author.Tests.{lt-ltb, le-ltb}
use Rattle.pieces.specs.Pieces.{header_in}
use Rattle.pieces.proofs.header_in.Goals as goal

pub returns-then-total-gt-LONGEST : goal.returns-then-total-gt-LONGEST
unfolding header_in
returns-then-total-gt-LONGEST c = rw (c.refused.ensures, lt-ltb 0x40000000 _ c.if-total-gt-LONGEST.true)

pub returns : goal.returns
unfolding header_in
returns c = rw (le-ltb 0x40000000 _ c.if-total-gt-LONGEST.false) (rw c.read_header-answer.ensures at c.settled.ensures)
