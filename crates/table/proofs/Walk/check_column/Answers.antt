-- `table::Walk::check_column` meets its contract: each return is a case of the column. Assumes nothing.
use Rattle.std.proofs.Common.{sym, ◌∙◌, arith}
use Rattle.table.proofs.CheckLaws.{column_cut, column_named, column_unnamed}
use Rattle.table.proofs.Walk.check_column.Goals as goal

pub returns-then-left_from-lt-RECORD : goal.returns-then-left_from-lt-RECORD
returns-then-left_from-lt-RECORD c =
    let a = c.args in
    column_cut a.self.now.body.now a.at a.self.now.layout (omega arith)

pub check_constant-requires : goal.check_constant-requires
check_constant-requires c = omega arith

pub returns : goal.returns
returns c =
    let a = c.args in
    c.check_constant.ensures
    ∙ column_named a.self.now.body.now a.at a.self.now.layout c.read8-tag.result c.read32.result (omega arith) c.read8-tag.ensures.0 c.read32.ensures.0
    (sym c.has_end.ensures ∙ c.if-not-has_end.false)

pub returns-then-not-has_end : goal.returns-then-not-has_end
returns-then-not-has_end c =
    let a = c.args in
    column_unnamed a.self.now.body.now a.at a.self.now.layout c.read8-tag.result c.read32.result (omega arith) c.read8-tag.ensures.0 c.read32.ensures.0
    (sym c.has_end.ensures ∙ c.if-not-has_end.true)
