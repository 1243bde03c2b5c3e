-- `profile::profile` meets its contract, by those of the survey and of the verdict on its chunks. Assumes nothing.
use Rattle.std.specs.Prelude.{Ok}
use Rattle.std.proofs.lemmas.Result.{err_from_is_err_and}
use mathlib.Core.Path.{sym, ap, ◌∙◌}
use Rattle.profile.proofs.JudgeLaws.{film_judged, film_refused}
use Rattle.profile.proofs.profile.Goals as goal

pub returns : goal.returns
returns c =
    let survey = rw c.as_original.ensures at c.survey.ensures in
    let verdict = rw c.first_of.ensures at c.judge.ensures in
    ap Ok verdict ∙ film_judged _ _ _ _ _ _ (sym survey ∙ c.in_ok-survey.was)

pub returns-in_err-survey : goal.returns-in_err-survey
returns-in_err-survey c =
    let survey = rw c.as_original.ensures at c.survey.ensures in
    let p = err_from_is_err_and c.from_residual.result c.from_residual.ensures.1 in rw (p.1, p.2)
    (film_refused _ _ (sym survey ∙ c.in_err-survey.was))
