-- `lookup::last_cell_of` meets its contract: a table that was read lies within the slice, and its last row is looked up. Assumes nothing.
use mathlib.Core.Path.{sym, ap, ◌∙◌}
use Rattle.std.proofs.lemmas.Result.{err_from_is_err_and}
use Prim.Native.Nat.{ℕ}
use Rattle.table.proofs.Promises.{AcceptedLiesWithin}
use Rattle.lookup.specs.Lookups.{cell_from}
use Rattle.lookup.proofs.LookupLaws.{no_last, last_in_table}
use Rattle.lookup.proofs.last_cell_of.Goals as goal

pub row_cell-requires : goal.row_cell-requires
row_cell-requires c =
    let a = c.args in
    let w = AcceptedLiesWithin a.bytes.now a.place a.mode c.in_ok-layout.layout (sym c.read_table.ensures ∙ c.in_ok-layout.was) in
    ((w.0, w.1), w.3)

pub returns : goal.returns
returns c =
    let a = c.args in
    c.row_cell.ensures ∙ ap (λ (row : ℕ). cell_from a.bytes.now a.place a.name.now row c.in_ok-layout.layout) c.saturating_sub-row.ensures
    ∙ last_in_table a.bytes.now a.place a.name.now a.mode c.in_ok-layout.layout (sym c.read_table.ensures ∙ c.in_ok-layout.was)

pub returns-in_err-layout : goal.returns-in_err-layout
returns-in_err-layout c =
    let a = c.args in
    let p = err_from_is_err_and c.from_residual.result c.from_residual.ensures.1 in rw (p.1, p.2)
    (no_last a.bytes.now a.place a.name.now a.mode _ (sym c.read_table.ensures ∙ c.in_err-layout.was))
