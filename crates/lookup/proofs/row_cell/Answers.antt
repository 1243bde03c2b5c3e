-- `lookup::row_cell` meets its contract: a row that the table has is looked up in its body, which the slice holds. Assumes nothing.
use Rattle.std.proofs.Common.{◌∙◌, arith}
use Rattle.lookup.proofs.LookupLaws.{no_row, in_row}
use Rattle.lookup.proofs.row_cell.Goals as goal

pub returns-then-layout-row : goal.returns-then-layout-row
returns-then-layout-row c =
    let a = c.args in
    no_row a.bytes.now a.place a.name.now a.row a.layout (omega arith)

pub returns : goal.returns
returns c =
    let a = c.args in
    c.placed_at.ensures
    ∙ in_row a.bytes.now a.place a.name.now a.row a.layout c.body_cell.result (omega (arith, c.if-layout-row.false)) c.body_cell.ensures
