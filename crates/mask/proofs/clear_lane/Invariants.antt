-- `mask::clear_lane` meets its contract: up to row r the lane is clear, `clear` is its byte in the row before, and all else is as it was.
-- Assumes nothing.
use Prim.Native.Nat.{◌+◌, ◌-◌, ◌*◌, ◌<◌}
use mathlib.Core.Path.{◌≡◌}
use lib.ListN.{length}
use Rattle.laws.specs.Lists.{at}
use Rattle.laws.proofs.UptoLaws.{Upto}
use Rattle.mask.specs.Rows.{clear_after}
use Rattle.mask.proofs.ClearLaws.{cleared_at}
use Rattle.mask.proofs.LaneLaws.{only}
use Rattle.mask.proofs.clear_lane.Given as goal

abbrev pub invariant-loop-r : goal.invariant-loop-r
invariant-loop-r l =
    (length l.initial.rows ≡ 0x120) × (l.lane < 0x20) × (l.mask ≡ at l.v l.lane) × (l.clear ≡ clear_after l.v l.initial.rows (l.r - 1) l.lane)
    × Upto (cleared_at (only l.lane) l.v l.initial.rows) l.initial.rows l.rows (l.r * 0x20 + l.lane)
