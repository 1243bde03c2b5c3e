-- `table::Walk::check_in_row` meets its contract, by cases of the storage. Assumes nothing.
use mathlib.Core.Path.{sym, ◌∙◌}
use Rattle.table.proofs.CheckLaws.{constant_in_row, stored_in_row, zero_in_row, unknown_in_row}
use Rattle.table.proofs.Walk.check_in_row.Goals as goal

pub returns-in-Constant : goal.returns-in-Constant
returns-in-Constant c =
    let a = c.args in
    constant_in_row a.self.now.body.now a.tag a.at a.self.now.layout (sym c.storage_of.ensures ∙ c.in-Constant.is)

pub returns-in-Stored : goal.returns-in-Stored
returns-in-Stored c =
    let a = c.args in
    c.check_cell.ensures
    ∙ stored_in_row a.self.now.body.now a.tag a.at a.self.now.layout c.kind_of.result c.kind_of.ensures (sym c.storage_of.ensures ∙ c.in-Stored.is)

pub returns-in-Zero : goal.returns-in-Zero
returns-in-Zero c =
    let a = c.args in
    c.check_zero.ensures
    ∙ zero_in_row a.self.now.body.now a.tag a.at a.self.now.layout c.kind_of-in-Zero.result c.kind_of-in-Zero.ensures (sym c.storage_of.ensures ∙ c.in-Zero.is)

pub returns-in-Unknown : goal.returns-in-Unknown
returns-in-Unknown c =
    let a = c.args in
    unknown_in_row a.self.now.body.now a.tag a.at a.self.now.layout (sym c.storage_of.ensures ∙ c.in-Unknown.is)
