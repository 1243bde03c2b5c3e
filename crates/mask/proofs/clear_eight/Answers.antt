-- `mask::clear_eight` meets its contract: the lanes before `lane` are clear, and the others are as they were. Assumes nothing.
use mathlib.Core.Path.{◌≡◌, ◌∙◌}
use native.Mathlib.Omega.{arith}
use borrow.Author.Rules.{rules}
use Rattle.mask.proofs.LaneLaws.{no_lane, lane_more, all_lanes}
use Rattle.mask.proofs.clear_eight.Goals as goal

pub loop-lane-init : goal.loop-lane-init
loop-lane-init c = (search rules, search rules, no_lane _ _)

pub loop-lane-preserved : goal.loop-lane-preserved
loop-lane-preserved c =
    let l = c.loop-lane in
    (search rules, search rules, lane_more _ _ _ l.lane l.invariant.2 _ c.clear_lane.ensures)

pub returns : goal.returns
returns c =
    let l = c.loop-lane in
    let last : l.lane ≡ 0x20 = omega arith in
    rw last at l.invariant.2 ∙ all_lanes _ _
