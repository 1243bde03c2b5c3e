-- `usm::usm_list` meets its contract: what the loop stores is what the plan asks for, and that are the records of the film's chunks. Assumes nothing.
use Rattle.std.proofs.Common.{ℕ, ◌≡◌, ◌-◌, ◌∙◌, refl, sym, ap, arith}
use Rattle.std.proofs.Math.ListN.{length-set}
use Rattle.reading.specs.Choices.{reading_by}
use Rattle.list.specs.declared.Plan.{Plan}
use Rattle.list.proofs.FillLaws.{fill_for, fill_by, one_more, plan_few, plan_leaves}
use Rattle.usm.proofs.usm_list.Goals as goal

pub loop-filled-init : goal.loop-filled-init
loop-filled-init c =
    let a = c.args in
    let plan = c.list_plan-plan.result in (
      omega arith,
      rw c.list_plan-plan.ensures (plan_few a.container.now (reading_by a.reading) a.list.now),
      refl,
      ap (λ (left : ℕ). fill_for a.container.now plan.reading left plan.start 0 a.list.now) (omega arith),
    )

pub loop-filled-preserved : goal.loop-filled-preserved
loop-filled-preserved c =
    let a = c.args in
    let plan = c.list_plan-plan.result in
    let l = c.loop-filled in (
      omega arith,
      l.invariant.1,
      length-set l.list l.filled c.record_at-step.result.made ∙ l.invariant.2,
      rw c.record_at-step.ensures (sym (one_more a.container.now plan a.list.now l.place l.filled l.list (omega arith)) ∙ l.invariant.3),
    )

pub returns : goal.returns
unfolding fill_for
returns c =
    let a = c.args in
    let plan = c.list_plan-plan.result in
    let l = c.loop-filled in
    let none : plan.records - l.filled ≡ 0 = omega arith in
    let stored = rw none at l.invariant.3 in
    let leaves = plan_leaves a.container.now (reading_by a.reading) a.list.now in (
      ap (λ (p : Plan). p.reply) c.list_plan-plan.ensures,
      stored ∙ ap (λ (p : Plan). fill_by a.container.now p a.list.now) c.list_plan-plan.ensures ∙ leaves,
    )
