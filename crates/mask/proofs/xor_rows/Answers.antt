-- `mask::xor_rows` meets its contract: after r rows the bytes below 0x20 r are XORed, and the rest are as they were. Assumes nothing.
use Prim.Native.Nat.{◌/◌}
use mathlib.Core.Path.{refl}
use native.Mathlib.Omega.{arith}
use lib.ListN.{length, length-take, length-drop}
use Rattle.laws.proofs.UptoLaws.{upto_none, upto_to, upto_end}
use Rattle.mask.specs.Rows.{xored_rows}
use Rattle.mask.proofs.RowLaws.{upto_xored}
use Rattle.mask.proofs.AudioLaws.{rows_row}
use Rattle.mask.proofs.xor_rows.Goals as goal

pub loop-r-init : goal.loop-r-init
loop-r-init c = (refl, upto_none _ _)

pub xor_in-requires : goal.xor_in-requires
xor_in-requires c = simp (length-take, length-drop) (omega arith)

pub loop-r-preserved : goal.loop-r-preserved
loop-r-preserved c =
    let l = c.loop-r in
    let args = c.args in (
      refl,
      upto_to
          (upto_xored _ _ _ _ _ _ _ l.invariant.1 (omega arith) (omega arith) c.xor_in.ensures
          (λ lane h. rows_row args.a args.rows.now l.r lane (omega arith)))
          (omega arith),
    )

pub xor_in-requires-then-start-rows : goal.xor_in-requires-then-start-rows
xor_in-requires-then-start-rows c = simp (length-take, length-drop) (omega arith)

pub returns-then-start-rows : goal.returns-then-start-rows
unfolding xored_rows
returns-then-start-rows c =
    let l = c.loop-r in
    let args = c.args in
    upto_end _ _ _ (length l.rows) _
    (upto_xored _ _ _ _ _ _ _ (upto_to l.invariant.1 (omega arith)) (omega arith) (omega arith) c.xor_in-then-start-rows.ensures
    (λ lane h. rows_row args.a args.rows.now (length args.rows.now / 0x20) lane (omega arith)))
    refl (omega arith)

pub returns-else-start-rows : goal.returns-else-start-rows
unfolding xored_rows
returns-else-start-rows c = upto_end _ _ _ _ _ c.loop-r.invariant.1 refl (omega arith)
