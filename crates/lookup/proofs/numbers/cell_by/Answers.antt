-- `lookup::numbers::cell_by` meets its contract, by cases of the layout. Assumes nothing.
use mathlib.Core.Path.{sym, ◌∙◌}
use native.Mathlib.Omega.{arith}
use Rattle.lookup.proofs.NumberLaws.{past_the_end, unlaid, laid, fits}
use Rattle.lookup.proofs.numbers.cell_by.Goals as goal

pub returns-then-bytes-place : goal.returns-then-bytes-place
returns-then-bytes-place c =
    let a = c.args in
    c.refused.ensures ∙ past_the_end a.bytes.now a.place a.mode a.line a.number (omega arith)

pub cell_in_table-requires : goal.cell_in_table-requires
cell_in_table-requires c =
    let a = c.args in
    fits a.bytes.now a.place a.mode (omega arith) _ (sym c.read_layout.ensures ∙ c.in-Ok.is)

pub returns-in-Ok : goal.returns-in-Ok
returns-in-Ok c =
    let a = c.args in
    c.cell_in_table.ensures ∙ laid a.bytes.now a.place a.mode (omega arith) _ (sym c.read_layout.ensures ∙ c.in-Ok.is) a.line a.number

pub returns-in-Err : goal.returns-in-Err
returns-in-Err c =
    let a = c.args in
    c.refused-in-Err.ensures ∙ unlaid a.bytes.now a.place a.mode (omega arith) _ (sym c.read_layout.ensures ∙ c.in-Err.is) a.line a.number
