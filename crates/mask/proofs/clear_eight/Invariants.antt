-- `mask::clear_eight` meets its contract: the lanes before `lane` are clear, and the others are as they were. Assumes nothing.
use mathlib.Core.Path.{◌≡◌}
use lib.ListN.{length}
use Rattle.mask.specs.Rows.{cleared_where}
use Rattle.mask.proofs.LaneLaws.{before}
use Rattle.mask.proofs.clear_eight.Given as goal

abbrev pub invariant-loop-lane : goal.invariant-loop-lane
invariant-loop-lane l = (length l.initial.rows ≡ 0x120) × (length l.rows ≡ 0x120) × (l.rows ≡ cleared_where (before l.lane) l.v l.initial.rows)
