-- `mask::xor_of` meets its contract: below `lane` the bytes are the XORs. Assumes nothing.
use mathlib.Core.Path.{◌∙◌, refl, sym}
use native.Mathlib.Omega.{arith}
use borrow.Author.Rules.{rules}
use Rattle.laws.proofs.UptoLaws.{upto_none, upto_set, upto_end}
use Rattle.mask.specs.Rows.{xored}
use Rattle.mask.proofs.xor_of.Goals as goal

pub loop-lane-init : goal.loop-lane-init
loop-lane-init c = (search rules, search rules, upto_none _ _)

pub loop-lane-preserved : goal.loop-lane-preserved
loop-lane-preserved c =
    let l = c.loop-lane in
    (search rules, refl, upto_set _ _ _ _ _ l.invariant.2 (omega (arith, l.invariant.2.len)) refl)

pub returns : goal.returns
unfolding xored
returns c =
    let l = c.loop-lane in
    upto_end _ _ _ _ _ l.invariant.2 (l.invariant.1 ∙ sym l.invariant.0) (omega arith)
