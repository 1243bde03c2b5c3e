-- `mask::clear_tail` meets its contract: below 0x160 the bytes are clear after the first call, and all after the second. Assumes nothing.
use mathlib.Core.Path.{refl}
use native.Mathlib.Omega.{arith}
use lib.ListN.{length-take, length-drop}
use Rattle.laws.proofs.UptoLaws.{upto_start, upto_end}
use Rattle.mask.specs.Video.{with_tail}
use Rattle.mask.proofs.RowLaws.{upto_xored}
use Rattle.mask.proofs.TailLaws.{tail_before, first_row, tail_cleared}
use Rattle.mask.proofs.clear_tail.Goals as goal

pub xor_in-requires : goal.xor_in-requires
xor_in-requires c = simp (length-take, length-drop) (omega arith)

pub clear_rows-requires : goal.clear_rows-requires
clear_rows-requires c = simp (length-take, length-drop) (omega arith)

pub returns : goal.returns
unfolding with_tail
returns c =
    let payload = c.args.payload.now in
    let first = upto_xored _ payload payload _ _ 0x140 0x160 (upto_start _ _ 0x140 (λ p l. tail_before _ _ p l)) (omega arith) (omega arith) c.xor_in.ensures
    (λ lane h. first_row _ _ lane (omega arith)) in
    upto_end _ _ _ _ _ (tail_cleared _ _ _ first (omega (arith, first.len)) _ c.clear_rows.ensures) refl (omega (arith, first.len))
