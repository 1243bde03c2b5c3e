-- `mask::xor_head` meets its contract: after r rows the bytes below 0x40 + 0x20 r are done, and `mask` is T XORed with the tail's rows before row r.
-- Assumes nothing.
use mathlib.Core.Path.{◌∙◌}
use mathlib.Core.Logic.{⊎_elim}
use native.Mathlib.Omega.{arith}
use borrow.Author.Rules.{rules}
use lib.ListN.{length-take, length-drop}
use Rattle.laws.proofs.Side.{side}
use Rattle.laws.proofs.TabLaws.{tab_ext}
use Rattle.laws.proofs.UptoLaws.{upto_start, upto_to}
use Rattle.mask.specs.Video.{xored_head}
use Rattle.mask.proofs.RowLaws.{upto_xored}
use Rattle.mask.proofs.HeadLaws.{sofar_start, sofar_next, head_before, head_after, head_row}
use Rattle.mask.proofs.xor_head.Goals as goal

pub loop-r-init : goal.loop-r-init
loop-r-init c = (search rules, upto_start _ _ 0x40 (λ p l. head_before _ _ p l), λ lane l. sofar_start _ _ lane)

pub xor_of-next-requires : goal.xor_of-next-requires
xor_of-next-requires c = simp (length-take, length-drop) (omega arith)

pub xor_in-requires : goal.xor_in-requires
xor_in-requires c = simp (length-take, length-drop) (omega arith)

pub loop-r-preserved : goal.loop-r-preserved
loop-r-preserved c =
    let l = c.loop-r in
    let next = c.xor_of-next in
    let more = sofar_next _ _ _ l.mask next.result l.r l.invariant.1 (omega arith) (omega arith) next.ensures l.invariant.2 in (
      search rules,
      upto_to
          (upto_xored _ _ _ _ _ _ _ l.invariant.1 (omega arith) (omega arith) c.xor_in.ensures
          (λ lane h. head_row _ _ next.result l.r lane (omega arith) (omega arith) (more lane (omega arith))))
          (omega arith),
      more,
    )

pub returns : goal.returns
unfolding xored_head
returns c =
    let l = c.loop-r in
    tab_ext _ _ _ l.invariant.1.len
    (λ p h. ⊎_elim (λ b. l.invariant.1.below p (omega arith)) (λ b. l.invariant.1.above p (omega arith) ∙ head_after _ _ p b) (side p 0x140))
