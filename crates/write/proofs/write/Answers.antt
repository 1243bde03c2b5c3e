-- `write::write` meets its contract: what is planned is answered, where the output has room for it, and the film is put. Assumes nothing.
use mathlib.Core.Path.{refl, sym, ◌∙◌}
use Rattle.std.proofs.lemmas.Result.{err_from_is_err_and}
use native.Mathlib.Omega.{arith}
use Rattle.lent.proofs.RoomLaws.{planned_so}
use Rattle.write_plan.proofs.PlanLaws.{accepted}
use Rattle.write.proofs.write.Goals as goal

pub put_film-requires : goal.put_film-requires
put_film-requires c =
    let so = planned_so _ _ _ (sym c.written_in.ensures ∙ c.in_ok-size.was) in
    let a = accepted _ _ _ _ _ (sym c.plan-planned.ensures ∙ so.0) in
    rw c.audio_in-audio.ensures.2 (omega (arith, a.sized, so.1), a.within)

pub returns : goal.returns
returns c =
    (rw (← c.plan-planned.ensures) (sym c.in_ok-size.was ∙ c.written_in.ensures), rw c.audio_in-audio.ensures.2 at c.put_film.ensures)

pub returns-in_err-size : goal.returns-in_err-size
returns-in_err-size c =
    let p = err_from_is_err_and c.from_residual.result c.from_residual.ensures.1 in rw (p.1, p.2)
    ((rw (← c.plan-planned.ensures) (sym c.in_err-size.was ∙ c.written_in.ensures), refl))
