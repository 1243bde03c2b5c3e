-- `film_move::onward::move_turned` meets its contract: what is planned is answered, where the output has room for it, and the film is put. Assumes nothing.
use mathlib.Core.Path.{refl, sym, ◌∙◌}
use Rattle.std.proofs.lemmas.Result.{err_from_is_err_and}
use native.Mathlib.Omega.{arith}
use Rattle.lent.proofs.RoomLaws.{planned_so}
use Rattle.write_plan.proofs.PlanLaws.{accepted}
use Rattle.film_move.proofs.FromLaws.{turns_few, plan-moved}
use Rattle.film_move.proofs.onward.move_turned.Goals as goal

pub plan_turns-planned-requires : goal.plan_turns-planned-requires
plan_turns-planned-requires c =
    let few = turns_few c.args.container.now c.args.film c.requires.1 c.requires.0 in
    let a = accepted _ _ _ _ _ c.requires.3 in
    (omega (arith, a.sized, a.within), few.0, few.1)

pub put_moved-requires : goal.put_moved-requires
put_moved-requires c =
    let so = planned_so _ _ _ (sym c.written_in.ensures ∙ c.in_ok-size.was) in
    let e = plan-moved c.args.container.now c.args.film c.requires.1 c.args.packing c.requires.2 c.args.frame c.requires.3 in
    let a = accepted _ _ _ _ _ (sym (c.plan_turns-planned.ensures ∙ e) ∙ so.0) in
    (c.requires.1, c.requires.2, c.requires.3, omega (arith, a.sized, so.1))

pub returns : goal.returns
returns c =
    let e = plan-moved c.args.container.now c.args.film c.requires.1 c.args.packing c.requires.2 c.args.frame c.requires.3 in
    (rw (← e, ← c.plan_turns-planned.ensures) (sym c.in_ok-size.was ∙ c.written_in.ensures), c.put_moved.ensures)

pub returns-in_err-size : goal.returns-in_err-size
returns-in_err-size c =
    let e = plan-moved c.args.container.now c.args.film c.requires.1 c.args.packing c.requires.2 c.args.frame c.requires.3 in
    let p = err_from_is_err_and c.from_residual.result c.from_residual.ensures.1 in rw (p.1, p.2)
    ((rw (← e, ← c.plan_turns-planned.ensures) (sym c.in_err-size.was ∙ c.written_in.ensures), refl))
