-- `csv::write_body` meets its contract: what is measured is the length of what is put, and it is put where it has room. Assumes nothing.
use mathlib.Core.Path.{refl, sym, ◌∙◌}
use Rattle.std.proofs.lemmas.Result.{err_from_is_err_and}
use Rattle.table_csv.proofs.WriteLaws.{sized}
use Rattle.table_csv.proofs.write_body.Goals as goal

pub returns : goal.returns
returns c =
    let size = sized c.put_table-size.ensures in
    (sym c.in_ok-size.was ∙ c.written_in.ensures ∙ rw size, c.put_table.ensures.holds)

pub returns-in_err-size : goal.returns-in_err-size
returns-in_err-size c =
    let size = sized c.put_table-size.ensures in
    let p = err_from_is_err_and c.from_residual.result c.from_residual.ensures.1 in rw (p.1, p.2)
    ((sym c.in_err-size.was ∙ c.written_in.ensures ∙ rw size, refl))
