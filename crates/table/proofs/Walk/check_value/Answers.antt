-- `table::Walk::check_value` meets its contract: only a text or data can be refused here. Assumes nothing.
use Rattle.std.specs.Prelude.{Ok}
use mathlib.Core.Path.{sym, ap, ap₂, ◌∙◌}
use Prim.Native.Nat.{ℕ, ◌+◌}
use native.Mathlib.Omega.{arith}
use Rattle.cell.specs.Types.{width_of}
use Rattle.cell.specs.Parts.{text_at, data_at}
use Rattle.cell.specs.Cells.{value_at}
use Rattle.table.specs.Walks.{after_cell}
use Rattle.table.proofs.CheckLaws.{plain}
use Rattle.table.proofs.Walk.check_value.Goals as goal

pub overflow_add-at : goal.overflow_add-at
overflow_add-at c = omega (arith, ap width_of c.in-11.is)

pub returns-in-10 : goal.returns-in-10
unfolding value_at
returns-in-10 c =
    let a = c.args in
    rw c.in-10.is
    (c.check_text.ensures ∙ ap (λ (n : ℕ). after_cell (Ok a.next) (text_at a.self.now.body.now (a.self.now.layout.strings + n))) c.read32.ensures.0)

pub returns-in-11 : goal.returns-in-11
unfolding value_at
returns-in-11 c =
    let a = c.args in
    rw c.in-11.is
    (c.check_data.ensures
    ∙ ap₂ (λ (c n : ℕ). after_cell (Ok a.next) (data_at a.self.now.body.now (a.self.now.layout.blobs + c) n)) c.read32-in-11.ensures.0 c.read32-in-11-2.ensures.0)

pub returns-in_default : goal.returns-in_default
returns-in_default c =
    let a = c.args in
    sym (plain a.self.now.body.now a.at a.self.now.layout a.kind _ c.in_default.in_default-own.rest.0.1 c.in_default.in_default-own.rest.1)
