-- `table::Walk::check_cell` meets its contract: an unknown type is refused, then bytes that run out, then the value. Assumes nothing.
use Rattle.std.specs.Prelude.{Ok}
use mathlib.Core.Path.{sym, ap, ◌∙◌}
use Prim.Native.Nat.{ℕ, ◌+◌}
use native.Mathlib.Omega.{arith}
use Rattle.cell.specs.Types.{kind_of}
use Rattle.cell.specs.Cells.{value_at}
use Rattle.table.specs.Walks.{after_cell}
use Rattle.table.proofs.CheckLaws.{cell_unknown, cell_cut, cell_there}
use Rattle.table.proofs.Walk.check_cell.Goals as goal

pub returns-then-width-eq0 : goal.returns-then-width-eq0
returns-then-width-eq0 c =
    let a = c.args in
    cell_unknown a.self.now.body.now a.kind a.at a.self.now.layout _ (sym c.width_of-width.ensures.0 ∙ c.if-width-eq0.true)

pub returns-then-left_from-width : goal.returns-then-left_from-width
returns-then-left_from-width c =
    let a = c.args in
    cell_cut a.self.now.body.now a.kind a.at a.self.now.layout _ (λ e. c.if-width-eq0.false (c.width_of-width.ensures.0 ∙ e)) (omega arith)

pub check_value-requires : goal.check_value-requires
check_value-requires c = omega arith

pub returns : goal.returns
returns c =
    let a = c.args in
    c.check_value.ensures
    ∙ ap (λ (n : ℕ). after_cell (Ok (a.at + n)) (value_at (kind_of a.kind) a.self.now.body.now a.at a.self.now.layout)) c.width_of-width.ensures.0
    ∙ cell_there a.self.now.body.now a.kind a.at a.self.now.layout _ (λ e. c.if-width-eq0.false (c.width_of-width.ensures.0 ∙ e)) (omega arith)
