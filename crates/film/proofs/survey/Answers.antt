-- `film::survey` meets its contract: the header's answer decides which film it is. Assumes nothing.
use mathlib.Core.Path.{sym, ap, ◌∙◌}
use Rattle.std.proofs.lemmas.Result.{err_from_is_err_and}
use Rattle.film.specs.Films.{survey_of}
use Rattle.film.proofs.FilmLaws.{with_header, without_header}
use Rattle.film.proofs.survey.Goals as goal

pub returns : goal.returns
returns c = c.measure_chunks.ensures ∙ ap survey_of (with_header _ _ _ (sym c.read_header.ensures ∙ c.in_ok-header.was))

pub returns-in_err-header : goal.returns-in_err-header
returns-in_err-header c =
    let p = err_from_is_err_and c.from_residual.result c.from_residual.ensures.1 in rw (p.1, p.2)
    (ap survey_of (without_header _ _ _ (sym c.read_header.ensures ∙ c.in_err-header.was)))
