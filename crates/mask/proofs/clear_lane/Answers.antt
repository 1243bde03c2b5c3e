-- `mask::clear_lane` meets its contract: up to row r the lane is clear, `clear` is its byte in the row before, and all else is as it was.
-- Assumes nothing.
use Prim.Native.Nat.{◌+◌, ◌-◌}
use mathlib.Core.Path.{◌≡◌, refl}
use native.Mathlib.Omega.{arith}
use borrow.Author.Rules.{rules}
use Rattle.laws.proofs.UptoLaws.{upto_end}
use Rattle.mask.specs.Rows.{clear_after, cleared_where}
use Rattle.mask.proofs.LaneLaws.{lane_start, lane_next, lane_byte}
use Rattle.mask.proofs.clear_lane.Goals as goal

pub loop-r-init : goal.loop-r-init
unfolding clear_after
loop-r-init c =
    let lane = c.args.lane in
    (search rules, search rules, search rules, refl, lane_start _ _ lane (omega arith))

pub loop-r-preserved : goal.loop-r-preserved
loop-r-preserved c =
    let l = c.loop-r in
    let i = l.invariant in
    let made = lane_byte _ _ _ i.1 _ l.r l.clear _ (omega arith) i.4 i.3 i.2 in
    let back : l.r + 1 - 1 ≡ l.r = omega arith in
    (search rules, search rules, search rules, rw back made, lane_next _ _ _ i.1 _ l.r _ i.4 (omega arith) made)

pub returns : goal.returns
unfolding cleared_where
returns c = upto_end _ _ _ _ _ c.loop-r.invariant.4 refl (omega arith)
