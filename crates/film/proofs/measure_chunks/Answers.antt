-- `film::measure_chunks` meets its contract: what the walk measures is what the survey says. Assumes nothing.
use mathlib.Core.Path.{sym, ◌∙◌}
use Rattle.std.proofs.lemmas.Result.{err_from_is_err_and}
use Rattle.film.proofs.FilmLaws.{measured, not_measured}
use Rattle.film.proofs.measure_chunks.Goals as goal

pub returns : goal.returns
returns c =
    let applied = c.applied_to-applied.ensures in
    rw applied (measured _ _ _ _ _ _ (rw (sym applied) (sym c.measure.ensures ∙ c.in_ok-count.was)))

pub returns-in_err-count : goal.returns-in_err-count
returns-in_err-count c =
    let p = err_from_is_err_and c.from_residual.result c.from_residual.ensures.1 in rw (p.1, p.2)
    (not_measured _ _ _ _ (rw (sym c.applied_to-applied.ensures) (sym c.measure.ensures ∙ c.in_err-count.was)))
