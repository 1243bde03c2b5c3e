-- `film_apart::film_apart` meets its contract, by the survey. Assumes nothing.
use mathlib.Core.Path.{sym, ◌∙◌}
use Rattle.std.proofs.lemmas.Result.{err_from_is_err_and}
use Rattle.film_apart.proofs.ApartLaws.{film_known, film_refused}
use Rattle.film_apart.proofs.film_apart.Goals as goal

pub returns : goal.returns
returns c =
    film_known _ _ _ _ _ _ _ _ _ (sym c.survey.ensures ∙ c.in_ok-survey.was) _ c.chunks_apart.ensures

pub returns-in_err-survey : goal.returns-in_err-survey
returns-in_err-survey c =
    let p = err_from_is_err_and c.from_residual.result c.from_residual.ensures.1 in rw (p.1, p.2)
    (film_refused _ _ _ _ _ (sym c.survey.ensures ∙ c.in_err-survey.was))
