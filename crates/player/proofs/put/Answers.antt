-- `player::put` meets its contract: below `lane` the bytes are set. Assumes nothing.
use mathlib.Core.Path.{refl}
use native.Mathlib.Omega.{arith}
use borrow.Author.Rules.{rules}
use lib.Seq.{ext_get_or}
use Rattle.laws.proofs.UptoLaws.{upto_none, upto_set}
use Rattle.player.proofs.put.Goals as goal

pub loop-lane-init : goal.loop-lane-init
loop-lane-init c = (search rules, search rules, upto_none _ _)

pub loop-lane-preserved : goal.loop-lane-preserved
loop-lane-preserved c =
    let l = c.loop-lane in
    (search rules, search rules, upto_set _ _ _ _ _ l.invariant.2 (omega arith) refl)

pub returns : goal.returns
returns c =
    let l = c.loop-lane in
    ext_get_or 0 _ _ (omega arith) (λ i h. l.invariant.2.below i (omega arith))
