-- `mask::clear_rows` meets its contract: eight rows for each turn are clear after the first, and the rest are as they were. Assumes nothing.
use Prim.Native.Nat.{◌*◌}
use mathlib.Core.Path.{refl}
use native.Mathlib.Omega.{arith}
use borrow.Author.Rules.{rules}
use lib.ListN.{length, length-take, length-drop}
use Rattle.laws.proofs.UptoLaws.{upto_start, upto_to, upto_end}
use Rattle.mask.specs.Rows.{cleared_where}
use Rattle.mask.proofs.ClearLaws.{first_stays, upto_cleared}
use Rattle.mask.proofs.clear_rows.Goals as goal

pub loop-turn-init : goal.loop-turn-init
loop-turn-init c = (search rules, refl, upto_start _ _ 0x20 (λ p l. first_stays _ _ p l))

pub clear_eight-requires : goal.clear_eight-requires
clear_eight-requires c = simp (length-take, length-drop) (omega arith)

pub loop-turn-preserved : goal.loop-turn-preserved
loop-turn-preserved c =
    let l = c.loop-turn in (
      search rules,
      refl,
      upto_to (upto_cleared _ _ _ _ (l.turn * 8) _ (omega arith) l.invariant.2 (omega arith) (omega arith) _ c.clear_eight.ensures) (omega arith),
    )

pub clear_each-requires : goal.clear_each-requires
clear_each-requires c = simp (length-take, length-drop) (omega arith)

pub returns : goal.returns
unfolding cleared_where
returns c =
    let l = c.loop-turn in
    upto_end _ _ _ (length l.rows) _
    (upto_cleared _ _ _ _ (l.turn * 8) _ (omega arith) (upto_to l.invariant.2 (omega arith)) (omega arith) (omega arith) _ c.clear_each.ensures)
    refl (omega arith)
