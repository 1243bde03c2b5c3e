-- `table::checked` meets its contract, by cases of the walk. Assumes nothing.
use mathlib.Core.Path.{sym, ap, ◌∙◌}
use mathlib.Core.List.{List}
use Prim.Native.Nat.{ℕ}
use Rattle.layout.proofs.LayoutLaws.{body_cut}
use Rattle.table.specs.Walks.{walk_of}
use Rattle.table.specs.Tables.{table_to}
use Rattle.table.proofs.checked.Goals as goal

pub returns-in-Ok : goal.returns-in-Ok
returns-in-Ok c =
    let a = c.args in
    let walked = sym (c.walk_table.ensures ∙ ap (λ (b : List ℕ). walk_of b a.layout) (body_cut a.table.now a.layout)) ∙ c.in-Ok.is in
    sym (ap (table_to a.place a.layout) walked)

pub returns-in-Err : goal.returns-in-Err
returns-in-Err c =
    let a = c.args in
    let walked = sym (c.walk_table.ensures ∙ ap (λ (b : List ℕ). walk_of b a.layout) (body_cut a.table.now a.layout)) ∙ c.in-Err.is in
    c.refused.ensures ∙ sym (ap (table_to a.place a.layout) walked)
