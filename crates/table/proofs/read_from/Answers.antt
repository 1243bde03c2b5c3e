-- `table::read_from` meets its contract, by cases of the layout. Assumes nothing.
use mathlib.Core.Path.{sym, ◌∙◌}
use Rattle.layout.proofs.LayoutLaws.{sound}
use Rattle.table.proofs.TableLaws.{unlaid, walked}
use Rattle.table.proofs.read_from.Goals as goal

pub checked-requires : goal.checked-requires
checked-requires c =
    let a = c.args in
    let s = sound a.table.now a.mode c.in-Ok.layout (sym c.read_layout.ensures ∙ c.in-Ok.is) in
    (s.0, s.3)

pub returns-in-Ok : goal.returns-in-Ok
returns-in-Ok c =
    let a = c.args in
    c.checked.ensures ∙ walked a.place a.table.now a.mode c.in-Ok.layout (sym c.read_layout.ensures ∙ c.in-Ok.is)

pub returns-in-Err : goal.returns-in-Err
returns-in-Err c =
    let a = c.args in
    c.refused.ensures ∙ unlaid a.place a.table.now a.mode c.in-Err.cause (sym c.read_layout.ensures ∙ c.in-Err.is)
