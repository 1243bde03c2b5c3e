-- `lookup::column_cell` meets its contract: the cell of a column that was read lies within the body. Assumes nothing.
use mathlib.Core.Path.{sym, ap, ap₂, ◌∙◌}
use Prim.Native.Nat.{◌+◌}
use native.Mathlib.Omega.{arith}
use Rattle.lookup.specs.Lookups.{end_of_answer, moved, column_cell}
use Rattle.lookup.proofs.CellLaws.{in_end, shift_le}
use Rattle.lookup.proofs.column_cell.Goals as goal

pub moved_cell-requires : goal.moved_cell-requires
moved_cell-requires c =
    let a = c.args in
    let column = c.in-Ok.column in
    let within = in_end a.body.now a.entry (a.at + a.offset) a.layout column (sym c.read_column.ensures ∙ c.in-Ok.is) in
    omega (arith, within, ap end_of_answer c.cell_in.ensures, shift_le column.storage a.by, c.shift_in.ensures)

pub returns-in-Ok : goal.returns-in-Ok
returns-in-Ok c =
    let a = c.args in
    c.moved_cell.ensures ∙ ap₂ moved c.shift_in.ensures c.cell_in.ensures
    ∙ sym (ap (column_cell a.body.now a.by (a.at + a.offset) a.layout) (sym c.read_column.ensures ∙ c.in-Ok.is))

pub returns-in-Err : goal.returns-in-Err
returns-in-Err c =
    let a = c.args in
    sym (ap (column_cell a.body.now a.by (a.at + a.offset) a.layout) (sym c.read_column.ensures ∙ c.in-Err.is))
