-- `statement::state` meets its contract: each answer from the tests and the survey; of a film that is read, that of what it shows and of both sizes. Assumes nothing.
use mathlib.Core.Path.{sym, ◌∙◌}
use native.Mathlib.Omega.{arith}
use Rattle.extract.proofs.Promises.{SizesFitTheContainer}
use Rattle.statement.proofs.StateLaws.{too_long, bad_tenants, film_refused, film_known}
use Rattle.statement.proofs.state.Goals as goal

pub returns-then-container-gt-LONGEST : goal.returns-then-container-gt-LONGEST
returns-then-container-gt-LONGEST c =
    let args = c.args in
    too_long args.container.now args.tenants.now args.lines.now _ (omega arith) c.refused.ensures

pub returns-then-are_bad : goal.returns-then-are_bad
returns-then-are_bad c =
    let args = c.args in
    bad_tenants args.container.now args.tenants.now args.lines.now _ (omega arith) (sym c.are_bad.ensures ∙ c.if-are_bad.true) c.refused-then-are_bad.ensures

pub overflow_add-survey : goal.overflow_add-survey
overflow_add-survey c =
    let e = sym (rw c.as_original.ensures at c.survey.ensures) ∙ c.in-Ok.is in
    omega (arith, SizesFitTheContainer _ _ _ _ _ _ _ e, c.well_formed)

pub returns : goal.returns
returns c =
    let e = sym (rw c.as_original.ensures at c.survey.ensures) ∙ c.in-Ok.is in
    let args = c.args in
    film_known args.container.now args.tenants.now args.lines.now _ (omega arith) (sym c.are_bad.ensures ∙ c.if-are_bad.false) _ _ _ _ _ e _ c.is_adx-adx.ensures _ c.bits_from-bits.ensures _ c.state_by.ensures

pub returns-in-Err : goal.returns-in-Err
returns-in-Err c =
    let e = sym (rw c.as_original.ensures at c.survey.ensures) ∙ c.in-Err.is in
    let args = c.args in
    film_refused args.container.now args.tenants.now args.lines.now _ (omega arith) (sym c.are_bad.ensures ∙ c.if-are_bad.false) _ e c.list_reply.ensures
