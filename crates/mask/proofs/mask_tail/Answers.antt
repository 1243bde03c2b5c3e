-- `mask::mask_tail` meets its contract: after r rows the bytes below 0x140 + 0x20 r are stored, and `mask` is what the next row is XORed with.
-- Assumes nothing.
use mathlib.Core.Path.{refl}
use native.Mathlib.Omega.{arith}
use borrow.Author.Rules.{rules}
use lib.ListN.{length, length-take, length-drop}
use Rattle.laws.proofs.UptoLaws.{upto_start, upto_to, upto_end}
use Rattle.mask.specs.Video.{with_tail}
use Rattle.mask.proofs.RowLaws.{upto_xored}
use Rattle.mask.proofs.TailLaws.{prior_start, prior_next, stored_row, tail_before}
use Rattle.mask.proofs.mask_tail.Goals as goal

pub loop-r-init : goal.loop-r-init
loop-r-init c = (search rules, refl, upto_start _ _ 0x140 (λ p l. tail_before _ _ p l), λ lane l. prior_start _ _ lane)

pub xor_of-next-requires : goal.xor_of-next-requires
xor_of-next-requires c = simp (length-take, length-drop) (omega arith)

pub xor_in-requires : goal.xor_in-requires
xor_in-requires c = simp (length-take, length-drop) (omega arith)

pub loop-r-preserved : goal.loop-r-preserved
loop-r-preserved c =
    let l = c.loop-r in (
      search rules,
      refl,
      upto_to (upto_xored _ _ _ _ _ _ _ l.invariant.2 (omega arith) (omega arith) c.xor_in.ensures
          (λ lane h. stored_row _ _ l.mask _ l.r lane (omega arith) (omega arith) (l.invariant.3 lane (omega arith)))) (omega arith),
      λ lane h. prior_next _ _ _ _ l.r lane (omega arith) c.xor_of-next.ensures (l.invariant.2.above _ (omega arith)) h,
    )

pub xor_in-requires-2 : goal.xor_in-requires-2
xor_in-requires-2 c = simp (length-take, length-drop) (omega arith)

pub returns : goal.returns
unfolding with_tail
returns c =
    let l = c.loop-r in
    upto_end _ _ _ (length l.payload) _
    (upto_xored _ _ _ _ _ _ _ (upto_to l.invariant.2 (omega arith)) (omega arith) (omega arith) c.xor_in-2.ensures
    (λ lane h. stored_row _ _ l.mask _ l.r lane (omega arith) (omega arith) (l.invariant.3 lane (omega arith))))
    refl (omega arith)
