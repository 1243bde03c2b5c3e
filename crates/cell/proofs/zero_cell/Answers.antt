-- `cell::zero_cell` meets its contract: the type picks the case. Assumes nothing.
use Rattle.std.proofs.Common.{Ok, sym, ap, ◌∙◌}
use Rattle.std.proofs.lemmas.Result.{err_from_is_err_and}
use borrow.Author.Tests.{eq-eqb, ne_eqb}
use Rattle.cell.specs.Cells.{zero_of, zero_cell}
use Rattle.cell.proofs.KindLaws.{its_kind, takes_room, no_room, its_cause}
use Rattle.cell.proofs.zero_cell.Goals as goal

pub returns-in_err-try_from : goal.returns-in_err-try_from
unfolding zero_cell
returns-in_err-try_from c =
    let p = err_from_is_err_and c.from_residual.result c.from_residual.ensures.1 in
    let e = sym c.try_from.ensures ∙ c.in_err-try_from.was in
    rw (p.1, p.2, eq-eqb _ _ (no_room c.args.kind _ e), its_cause c.args.kind _ e)

pub returns : goal.returns
unfolding zero_cell
returns c =
    let e = sym c.try_from.ensures ∙ c.in_ok-try_from.was in
    rw (ne_eqb _ _ (takes_room c.args.kind _ e)) (ap Ok (c.zero_of.ensures ∙ ap zero_of (sym (its_kind c.args.kind _ e))))
