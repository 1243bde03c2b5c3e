-- `table::Walk::check_constant` meets its contract, by cases of the storage. Assumes nothing.
use mathlib.Core.Path.{sym, ◌∙◌}
use Rattle.table.proofs.CheckLaws.{constant_follows, unknown_follows}
use Rattle.table.proofs.Walk.check_constant.Goals as goal

pub returns-in-Constant : goal.returns-in-Constant
returns-in-Constant c =
    let a = c.args in
    c.check_cell.ensures
    ∙ constant_follows a.self.now.body.now a.tag a.at a.self.now.layout c.kind_of.result c.kind_of.ensures (sym c.storage_of.ensures ∙ c.in-Constant.is)

pub returns-in-Unknown : goal.returns-in-Unknown
returns-in-Unknown c =
    let a = c.args in
    unknown_follows a.self.now.body.now a.tag a.at a.self.now.layout (sym c.storage_of.ensures ∙ c.in-Unknown.is)
