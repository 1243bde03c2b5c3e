-- `mask::xor_in` meets its contract: below `lane` the bytes are XORed, and the rest are as they were. Assumes nothing.
use mathlib.Core.Path.{refl}
use borrow.Author.Rules.{rules}
use Rattle.laws.proofs.UptoLaws.{upto_none, upto_set, upto_end}
use Rattle.mask.specs.Rows.{xored}
use Rattle.mask.proofs.xor_in.Goals as goal

pub loop-lane-init : goal.loop-lane-init
loop-lane-init c = (search rules, upto_none _ _)

pub loop-lane-preserved : goal.loop-lane-preserved
loop-lane-preserved c =
    let l = c.loop-lane in
    (search rules, upto_set _ _ _ _ _ l.invariant.1 (search rules) (rw (l.invariant.1.above l.lane (search rules))))

pub returns : goal.returns
unfolding xored
returns c = upto_end _ _ _ _ _ c.loop-lane.invariant.1 refl (search rules)
