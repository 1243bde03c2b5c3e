-- `write_plan::plan` meets its contract: a law for each answer. Assumes nothing.
use mathlib.Core.Path.{sym, ◌∙◌}
use Rattle.std.proofs.lemmas.Result.{err_from_is_err_and}
use Rattle.write_plan.proofs.PlanLaws.{plan_refused, plan_marked, plan_size}
use Rattle.write_plan.proofs.plan.Goals as goal
use Rattle.write_plan.proofs.plan.Goals.{then-any_marked-via-then-any_marked, then-any_marked-via-else-any_marked+then-any_marked-2}

pub returns-then-any_marked : goal.returns-then-any_marked
returns-then-any_marked c =
    rw (← c.audio_in-audio.ensures.2)
    (c.refused.ensures ∙ plan_marked c.args.name.now c.args.video.now _ c.args.packing _ c.plan_sizes.ensures _ c.in_ok-size.was
    (elim c.then-any_marked.branch [
      | then-any_marked-via-then-any_marked w ↦ rw (sym c.any_marked.ensures ∙ w.if-any_marked.true)
      | then-any_marked-via-else-any_marked+then-any_marked-2 w ↦
          rw (sym c.any_marked.ensures ∙ w.if-any_marked.false, sym w.any_marked-else-any_marked.ensures ∙ w.if-any_marked-2.true)
    ]))

pub returns : goal.returns
returns c =
    rw (← c.audio_in-audio.ensures.2)
    (plan_size c.args.name.now c.args.video.now _ c.args.packing _ c.plan_sizes.ensures _ c.in_ok-size.was (sym c.any_marked.ensures ∙ c.if-any_marked.false) (sym c.any_marked-else-any_marked.ensures ∙ c.if-any_marked-2.false))

pub returns-in_err-size : goal.returns-in_err-size
returns-in_err-size c =
    let p = err_from_is_err_and c.from_residual.result c.from_residual.ensures.1 in rw (p.1, p.2)
    (rw (← c.audio_in-audio.ensures.2) (plan_refused c.args.name.now c.args.video.now _ c.args.packing _ c.plan_sizes.ensures _ c.in_err-size.was))
