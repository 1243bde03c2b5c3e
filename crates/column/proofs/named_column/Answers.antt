-- `column::named_column` meets its contract: the column is what its type byte says, with the constant that follows. Assumes nothing.
use mathlib.Core.Path.{sym, ◌∙◌}
use Rattle.std.proofs.lemmas.Result.{err_from_is_err_and}
use Rattle.column.proofs.ColumnLaws.{held, unheld}
use Rattle.column.proofs.named_column.Goals as goal

pub returns : goal.returns
returns c =
    let a = c.args in
    held a.body.now a.at a.name a.layout c.read8-tag.result c.storage_of-storage.result c.kind_of-kind.result c.read8-tag.ensures.0 c.storage_of-storage.ensures c.kind_of-kind.ensures
    c.in_record.result _ c.in_record.ensures.0 (sym c.constant_at.ensures ∙ c.in_ok-constant.was)

pub returns-in_err-constant : goal.returns-in_err-constant
returns-in_err-constant c =
    let a = c.args in
    let p = err_from_is_err_and c.from_residual.result c.from_residual.ensures.1 in
    rw (p.1, p.2)
    (unheld a.body.now a.at a.name a.layout c.read8-tag.result c.storage_of-storage.result c.kind_of-kind.result c.read8-tag.ensures.0 c.storage_of-storage.ensures c.kind_of-kind.ensures
    _ (sym c.constant_at.ensures ∙ c.in_err-constant.was))
