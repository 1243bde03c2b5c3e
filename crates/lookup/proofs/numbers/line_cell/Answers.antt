-- `lookup::numbers::line_cell` meets its contract: a name is read as a string is, a cell as a look-up reads it. Assumes nothing.
use Prim.Native.Nat.{◌≤◌}
use native.Mathlib.Omega.{arith}
use Rattle.lookup.proofs.CellLaws.{row_bound}
use Rattle.lookup.proofs.NumberLaws.{read_end, row_held, its_name, its_cell}
use Rattle.lookup.proofs.numbers.line_cell.Goals as goal

pub moved_cell-requires : goal.moved_cell-requires
moved_cell-requires c =
    omega (arith, read_end _ _ _ _ _ c.read_cell.ensures)

pub overflow_mul-at : goal.overflow_mul-at
overflow_mul-at c =
    let a = c.args in
    let held = rw c.in-Row.is at c.requires.3 in
    let small : c.slot_of-end.result.offset ≤ 16384 = omega (arith, c.slot_of-end.ensures.3) in
    omega (arith, row_bound c.in-Row.row c.slot_of-end.result.offset (omega (arith, row_held a.layout c.in-Row.row held)) small)

pub overflow_add-at : goal.overflow_add-at
overflow_add-at c =
    let a = c.args in
    let held = rw c.in-Row.is at c.requires.3 in
    let small : c.slot_of-end.result.offset ≤ 16384 = omega (arith, c.slot_of-end.ensures.3) in
    omega (arith, row_bound c.in-Row.row c.slot_of-end.result.offset (omega (arith, row_held a.layout c.in-Row.row held)) small)

pub returns-in-Names : goal.returns-in-Names
returns-in-Names c =
    rw c.in-Names.is (its_name _ _ _ _ _ c.slot_of-slot.ensures.0 _ c.read_cell.ensures _ c.moved_cell.ensures)

pub returns-in-Row : goal.returns-in-Row
returns-in-Row c =
    rw c.in-Row.is (its_cell _ _ _ _ _ c.slot_of-slot.ensures.0 _ _ c.slot_of-slot.ensures.1 _ c.slot_of-end.ensures.1 _ c.column_cell.ensures)
