-- `lookup::body_cell` meets its contract: rows stand one after the other. Assumes nothing.
use mathlib.Core.Path.{ap, ◌∙◌}
use Prim.Native.Nat.{◌≤◌}
use native.Mathlib.Omega.{arith}
use Rattle.lookup.specs.Lookups.{searched_cell, body_cell}
use Rattle.lookup.proofs.CellLaws.{row_bound}
use Rattle.lookup.proofs.body_cell.Goals as goal

pub overflow_mul-at : goal.overflow_mul-at
overflow_mul-at c =
    let a = c.args in
    let small : c.last_named-found.result.width ≤ 16384 = omega (arith, c.last_named-found.ensures.1) in
    omega (arith, row_bound a.row c.last_named-found.result.width (omega arith) small)

pub overflow_add-at : goal.overflow_add-at
overflow_add-at c =
    let a = c.args in
    let small : c.last_named-found.result.width ≤ 16384 = omega (arith, c.last_named-found.ensures.1) in
    omega (arith, row_bound a.row c.last_named-found.result.width (omega arith) small)

pub returns : goal.returns
unfolding body_cell
returns c =
    let a = c.args in
    c.marked_cell.ensures ∙ ap (searched_cell a.body.now a.by a.layout a.row) c.last_named-found.ensures.0
