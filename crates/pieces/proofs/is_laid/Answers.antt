-- `pieces::is_laid` meets its contract: where too few bytes are left, there is no table. Assumes nothing.
use mathlib.Core.Path.{sym}
use Prim.Native.Nat.{◌-◌, ◌<◌}
use native.Mathlib.Omega.{arith}
use lib.ListN.{length}
use borrow.Author.Tests.{lt-leb}
use Rattle.laws_prefix.proofs.BlockLaws.{unlaid}
use Rattle.pieces.proofs.is_laid.Goals as goal

pub returns-else-left_from-ge-INSIDE : goal.returns-else-left_from-ge-INSIDE
returns-else-left_from-ge-INSIDE c =
    let s = c.args.beginning.now in
    let few : length s - c.args.place < 0x40 = omega arith in
    rw (lt-leb 0x20 c.left_from.result (omega arith)) (sym (unlaid s c.args.mode c.args.place few))
