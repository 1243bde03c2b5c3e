-- `csv::put_signed` meets its contract: by the sign of the number. Assumes nothing.
use Rattle.std.proofs.Common.{length, refl, ap, ◌∙◌, arith}
use lib.IntN.{nat_abs}
use mir.Facts.{to_z-of_z}
use Rattle.laws.proofs.PutLaws.{put_as, put_then}
use Rattle.table_csv.proofs.FieldLaws.{negative_text, other_text}
use Rattle.table_csv.proofs.put_signed.Goals as goal

pub put-at-requires : goal.put-at-requires
put-at-requires c =
    omega (arith, ap length (negative_text c.args.number c.ranges.number (nat_abs c.args.number) refl c.if-number-lt0.true))

pub put_number-requires : goal.put_number-requires
put_number-requires c =
    let size = c.from.ensures ∙ c.unsigned_abs.ensures.value ∙ ap nat_abs (to_z-of_z c.ranges.number) in
    omega (arith, c.put-at.ensures.ends, ap length (negative_text c.args.number c.ranges.number _ size c.if-number-lt0.true))

pub returns-then-number-lt0 : goal.returns-then-number-lt0
returns-then-number-lt0 c =
    let size = c.from.ensures ∙ c.unsigned_abs.ensures.value ∙ ap nat_abs (to_z-of_z c.ranges.number) in
    put_as (put_then c.put-at.ensures c.put_number.ensures) (negative_text c.args.number c.ranges.number _ size c.if-number-lt0.true)

pub put_number-requires-2 : goal.put_number-requires-2
put_number-requires-2 c =
    let size = c.from-2.ensures ∙ c.unsigned_abs-2.ensures.value ∙ ap nat_abs (to_z-of_z c.ranges.number) in
    omega (arith, ap length (other_text c.args.number c.ranges.number _ size c.if-number-lt0.false))

pub returns : goal.returns
returns c =
    let size = c.from-2.ensures ∙ c.unsigned_abs-2.ensures.value ∙ ap nat_abs (to_z-of_z c.ranges.number) in
    put_as c.put_number-2.ensures (other_text c.args.number c.ranges.number _ size c.if-number-lt0.false)
