-- `csv::write_csv` meets its contract: a table that is accepted lies within the slice, and is written; another is refused. Assumes nothing.
use mathlib.Core.Path.{sym, ◌∙◌}
use Rattle.std.proofs.lemmas.Result.{err_from_is_err_and}
use native.Mathlib.Omega.{arith}
use Rattle.table_csv.proofs.WriteLaws.{accepted, written, refused}
use Rattle.table_csv.proofs.write_csv.Goals as goal

pub write_table-requires : goal.write_table-requires
write_table-requires c =
    let known = c.shared_slice_known-1 in
    accepted _ _ _ (λ i. omega (arith, known.given i)) _ (sym c.read_table.ensures ∙ c.in_ok-layout.was)

pub returns : goal.returns
returns c =
    written _ _ _ _ (sym c.read_table.ensures ∙ c.in_ok-layout.was) _ _ _ c.write_table.ensures

pub returns-in_err-layout : goal.returns-in_err-layout
returns-in_err-layout c =
    let p = err_from_is_err_and c.from_residual.result c.from_residual.ensures.1 in rw (p.1, p.2)
    (refused _ _ _ _ (sym c.read_table.ensures ∙ c.in_err-layout.was) _)
