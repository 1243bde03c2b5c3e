-- `lookup::numbers::cell_in_table` meets its contract: what the table has is looked up in its body, which the slice holds. Assumes nothing.
use mathlib.Core.Path.{sym, ◌∙◌}
use native.Mathlib.Omega.{arith}
use borrow.Author.Rules.{rules}
use Rattle.lookup.proofs.NumberLaws.{no_column_lem, no_line, on_line_lem}
use Rattle.lookup.proofs.numbers.cell_in_table.Goals as goal

pub returns-then-layout-number : goal.returns-then-layout-number
returns-then-layout-number c =
    let a = c.args in
    no_column_lem a.bytes.now a.place a.layout a.line a.number (omega arith)

pub line_cell-requires : goal.line_cell-requires
line_cell-requires c =
    let line = sym c.has_line.ensures ∙ c.if-has_line.true in
    (search rules, omega arith, search rules, line, search rules)

pub returns-then-has_line : goal.returns-then-has_line
returns-then-has_line c =
    let a = c.args in
    c.placed_at.ensures ∙ on_line_lem a.bytes.now a.place a.layout a.line a.number (omega arith) (sym c.has_line.ensures ∙ c.if-has_line.true) _ c.line_cell.ensures

pub returns : goal.returns
returns c =
    let a = c.args in
    no_line a.bytes.now a.place a.layout a.line a.number (omega arith) (sym c.has_line.ensures ∙ c.if-has_line.false)
