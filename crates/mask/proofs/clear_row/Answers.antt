-- `mask::clear_row` meets its contract: below 0x20 + `lane` the bytes are clear, and the rest are as they were. Assumes nothing.
use mathlib.Core.Path.{refl}
use native.Mathlib.Omega.{arith}
use borrow.Author.Rules.{rules}
use Rattle.laws.proofs.UptoLaws.{upto_start, upto_set, upto_to, upto_end}
use Rattle.mask.specs.Rows.{cleared_where}
use Rattle.mask.proofs.ClearLaws.{first_stays, second_row}
use Rattle.mask.proofs.clear_row.Goals as goal

pub loop-lane-init : goal.loop-lane-init
loop-lane-init c = (search rules, search rules, upto_start _ _ 0x20 (λ p l. first_stays _ _ p l))

pub loop-lane-preserved : goal.loop-lane-preserved
loop-lane-preserved c =
    let l = c.loop-lane in
    let u = l.invariant.2 in (
      search rules,
      search rules,
      upto_to (upto_set _ _ _ _ _ u (omega arith) (second_row _ _ _ l.lane (omega arith) u)) (omega arith),
    )

pub returns : goal.returns
unfolding cleared_where
returns c = upto_end _ _ _ _ _ c.loop-lane.invariant.2 refl (omega arith)
