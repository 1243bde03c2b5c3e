-- `mask::clear_each` meets its contract: r rows after the first are clear, and the rest are as they were. Assumes nothing.
use Prim.Native.Nat.{◌+◌, ◌*◌, ◌-◌, ◌/◌, ◌≤◌}
use mathlib.Core.Path.{◌≡◌}
use lib.ListN.{length}
use Rattle.laws.proofs.UptoLaws.{Upto}
use Rattle.mask.proofs.ClearLaws.{cleared_at, all}
use Rattle.mask.proofs.clear_each.Given as goal

abbrev pub invariant-loop-r : goal.invariant-loop-r
invariant-loop-r l = (0x20 ≤ length l.initial.rows) × (l.whole ≡ length l.initial.rows / 0x20 - 1) × Upto (cleared_at all l.v l.initial.rows) l.initial.rows l.rows (l.r * 0x20 + 0x20)
