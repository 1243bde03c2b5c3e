-- `mask::clear_row` meets its contract: below 0x20 + `lane` the bytes are clear, and the rest are as they were. Assumes nothing.
use Prim.Native.Nat.{◌+◌, ◌≤◌}
use lib.ListN.{length}
use Rattle.laws.proofs.UptoLaws.{Upto}
use Rattle.mask.proofs.ClearLaws.{cleared_at, all}
use Rattle.mask.proofs.clear_row.Given as goal

abbrev pub invariant-loop-lane : goal.invariant-loop-lane
invariant-loop-lane l = (0x20 ≤ length l.initial.rows) × (length l.initial.rows ≤ 0x40) × Upto (cleared_at all l.v l.initial.rows) l.initial.rows l.rows (0x20 + l.lane)
