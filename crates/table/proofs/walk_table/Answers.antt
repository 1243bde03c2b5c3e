-- `table::walk_table` meets its contract: the columns come first, then the rows. Assumes nothing.
use Rattle.std.proofs.Common.{List, ℕ, sym, ap₂, ◌∙◌}
use Rattle.std.proofs.lemmas.Result.{err_from_is_err_and}
use Rattle.layout.specs.declared.Layout.{Layout}
use Rattle.table.specs.Walks.{columns_from, rows_from}
use Rattle.table.proofs.WalkLaws.{table_rows, table_stop}
use Rattle.table.proofs.walk_table.Goals as goal

pub returns : goal.returns
returns c =
    let a = c.args in
    let n = c.new-walk.ensures in
    c.check_rows.ensures ∙ ap₂ (λ (b : List ℕ) (l : Layout). rows_from b l l.rows l.start) n.0 n.1
    ∙ sym (table_rows a.body.now a.layout c.in_ok-check_columns.field-0
    (sym (c.check_columns.ensures ∙ ap₂ (λ (b : List ℕ) (l : Layout). columns_from b l l.columns 0) n.0 n.1) ∙ c.in_ok-check_columns.was))

pub returns-in_err-check_columns : goal.returns-in_err-check_columns
returns-in_err-check_columns c =
    let a = c.args in
    let n = c.new-walk.ensures in
    let p = err_from_is_err_and c.from_residual.result c.from_residual.ensures.1 in rw (p.1, p.2)
    (sym (table_stop a.body.now a.layout _
    (sym (c.check_columns.ensures ∙ ap₂ (λ (b : List ℕ) (l : Layout). columns_from b l l.columns 0) n.0 n.1) ∙ c.in_err-check_columns.was)))
