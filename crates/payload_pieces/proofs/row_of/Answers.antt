-- `payload_pieces::row_of` meets its contract: below `lane` the bytes are the row's. Assumes nothing.
use mathlib.Core.Path.{◌∙◌, refl, sym}
use native.Mathlib.Omega.{arith}
use borrow.Author.Rules.{rules}
use lib.Seq.{ext_get_or}
use Rattle.laws.proofs.UptoLaws.{upto_none, upto_set}
use Rattle.payload_pieces.proofs.row_of.Goals as goal

pub loop-lane-init : goal.loop-lane-init
loop-lane-init c = (search rules, search rules, upto_none _ _)

pub loop-lane-preserved : goal.loop-lane-preserved
loop-lane-preserved c =
    let l = c.loop-lane in
    (search rules, refl, upto_set _ _ _ _ _ l.invariant.2 (omega (arith, l.invariant.2.len)) refl)

pub returns : goal.returns
returns c =
    let l = c.loop-lane in
    ext_get_or 0 _ _ (l.invariant.2.len ∙ l.invariant.1 ∙ sym l.invariant.0) (λ p h. l.invariant.2.below p (omega (arith, l.invariant.2.len)))
