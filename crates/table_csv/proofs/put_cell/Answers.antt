-- `csv::put_cell` meets its contract, by cases of the cell. Assumes nothing.
use mathlib.Core.Path.{◌≡◌, ap}
use native.Mathlib.Omega.{arith}
use lib.ListN.{length}
use Rattle.laws.proofs.PutLaws.{put_none, put_as}
use Rattle.table_csv.proofs.CellPutLaws.{nothing_field, unsigned_field, signed_field, float_field, nan_field, text_field, data_field}
use mir.Syntax.{w32}
use mir.Val.{to_z, of_z}
use borrow.Author.Rules.{rules}
use Rattle.table_csv.proofs.put_cell.Goals as goal

pub put_number-requires : goal.put_number-requires
put_number-requires c =
    let a = c.args in
    omega (arith, ap length (unsigned_field a.body.now _ _ c.in-Unsigned.is))

pub put_signed-requires : goal.put_signed-requires
put_signed-requires c =
    let a = c.args in
    let z = c.in-Signed.number in
    let e : to_z w32 (of_z w32 z) ≡ z = search rules in
    omega (arith, ap length (signed_field a.body.now _ _ c.in-Signed.is e))

pub put_float-requires : goal.put_float-requires
put_float-requires c =
    let a = c.args in
    omega (arith, ap length (float_field a.body.now _ _ c.in-Float.is c.value_of.ensures))

pub put_float-requires-in-NotANumber : goal.put_float-requires-in-NotANumber
put_float-requires-in-NotANumber c =
    let a = c.args in
    omega (arith, ap length (nan_field a.body.now _ _ c.in-NotANumber.is c.value_of-in-NotANumber.ensures))

pub put_field-requires : goal.put_field-requires
put_field-requires c =
    let a = c.args in
    omega (arith, ap length (text_field a.body.now a.cell _ c.in-Text.is c.part_of.ensures.2))

pub put_data-requires : goal.put_data-requires
put_data-requires c =
    let a = c.args in
    omega (arith, ap length (data_field a.body.now a.cell _ c.in-Data.is c.part_of-in-Data.ensures.2))

pub returns-in-Nothing : goal.returns-in-Nothing
returns-in-Nothing c = put_as (put_none _ _) (nothing_field _ _ c.in-Nothing.is)

pub returns-in-Unsigned : goal.returns-in-Unsigned
returns-in-Unsigned c = put_as c.put_number.ensures (unsigned_field _ _ _ c.in-Unsigned.is)

pub returns-in-Signed : goal.returns-in-Signed
returns-in-Signed c =
    let z = c.in-Signed.number in
    let e : to_z w32 (of_z w32 z) ≡ z = search rules in
    put_as c.put_signed.ensures (signed_field _ _ _ c.in-Signed.is e)

pub returns-in-Float : goal.returns-in-Float
returns-in-Float c = put_as c.put_float.ensures (float_field _ _ _ c.in-Float.is c.value_of.ensures)

pub returns-in-NotANumber : goal.returns-in-NotANumber
returns-in-NotANumber c = put_as c.put_float-in-NotANumber.ensures (nan_field _ _ _ c.in-NotANumber.is c.value_of-in-NotANumber.ensures)

pub returns-in-Text : goal.returns-in-Text
returns-in-Text c = put_as c.put_field.ensures (text_field _ _ _ c.in-Text.is c.part_of.ensures.2)

pub returns-in-Data : goal.returns-in-Data
returns-in-Data c = put_as c.put_data.ensures (data_field _ _ _ c.in-Data.is c.part_of-in-Data.ensures.2)
