-- `mask::clear_each` meets its contract: r rows after the first are clear, and the rest are as they were. Assumes nothing.
use mathlib.Core.Path.{refl}
use native.Mathlib.Omega.{arith}
use borrow.Author.Rules.{rules}
use lib.ListN.{length, length-take, length-drop}
use Rattle.laws.proofs.UptoLaws.{upto_start, upto_to, upto_end}
use Rattle.mask.specs.Rows.{cleared_where}
use Rattle.mask.proofs.ClearLaws.{first_stays, upto_cleared}
use Rattle.mask.proofs.clear_each.Goals as goal

pub loop-r-init : goal.loop-r-init
loop-r-init c = (search rules, refl, upto_start _ _ 0x20 (λ p l. first_stays _ _ p l))

pub clear_row-requires : goal.clear_row-requires
clear_row-requires c = (simp (length-take, length-drop) (omega arith), simp (length-take, length-drop) (omega arith))

pub loop-r-preserved : goal.loop-r-preserved
loop-r-preserved c =
    let l = c.loop-r in (
      search rules,
      refl,
      upto_to (upto_cleared _ _ _ _ l.r _ refl l.invariant.2 (omega arith) (omega arith) _ c.clear_row.ensures) (omega arith),
    )

pub clear_row-requires-2 : goal.clear_row-requires-2
clear_row-requires-2 c = (simp (length-take, length-drop) (omega arith), simp (length-take, length-drop) (omega arith))

pub returns : goal.returns
unfolding cleared_where
returns c =
    let l = c.loop-r in
    upto_end _ _ _ (length l.rows) _
    (upto_cleared _ _ _ _ l.r _ (omega arith) (upto_to l.invariant.2 (omega arith)) (omega arith) (omega arith) _ c.clear_row-2.ensures)
    refl (omega arith)
