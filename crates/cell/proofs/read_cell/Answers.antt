-- `cell::read_cell` meets its contract: the type and the bytes that are left pick the case of `cell_at`. Assumes nothing.
use Rattle.std.proofs.Common.{◌+◌, ◌≤◌, ◌<◌, length, sym, ap, ◌∙◌, arith}
use Rattle.std.proofs.lemmas.Result.{err_from_is_err_and}
use borrow.Author.Tests.{eq-eqb, ne_eqb, le-leb, lt-leb}
use Rattle.cell.specs.Types.{Kind, width, width_of}
use Rattle.cell.specs.Cells.{value_at, cell_at}
use Rattle.cell.proofs.KindLaws.{its_kind, takes_room, no_room, its_cause}
use Rattle.cell.proofs.read_cell.Goals as goal

pub returns-in_err-value : goal.returns-in_err-value
unfolding cell_at
returns-in_err-value c =
    let p = err_from_is_err_and c.from_residual.result c.from_residual.ensures.1 in
    let e = sym c.try_from.ensures ∙ c.in_err-value.was in
    rw (p.1, p.2, eq-eqb _ _ (no_room c.args.kind _ e), its_cause c.args.kind _ e)

pub returns-then-left_from-width_of : goal.returns-then-left_from-width_of
unfolding cell_at
returns-then-left_from-width_of c =
    let a = c.args in
    let e = sym c.try_from.ensures ∙ c.in_ok-value.was in
    let cut : length a.body.now < a.at + width_of a.kind = omega arith in
    simp (ne_eqb _ _ (takes_room a.kind _ e), lt-leb _ _ cut)

pub value_at-requires : goal.value_at-requires
value_at-requires c =
    let e = sym c.try_from.ensures ∙ c.in_ok-value.was in
    omega (arith, takes_room c.args.kind _ e, ap width (its_kind c.args.kind _ e))

pub returns : goal.returns
unfolding cell_at
returns c =
    let a = c.args in
    let e = sym c.try_from.ensures ∙ c.in_ok-value.was in
    let there : a.at + width_of a.kind ≤ length a.body.now = omega (arith, takes_room a.kind _ e) in
    simp (ne_eqb _ _ (takes_room a.kind _ e), le-leb _ _ there)
    (c.value_at.ensures ∙ ap (λ (k : Kind). value_at k a.body.now a.at a.layout) (sym (its_kind a.kind _ e)))
