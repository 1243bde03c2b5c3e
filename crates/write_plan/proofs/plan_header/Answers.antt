-- `write_plan::plan_header` meets its contract: a refusal of the film is one of its header. Assumes nothing.
use mathlib.Core.Path.{sym, ◌∙◌}
use Rattle.std.proofs.lemmas.Result.{err_from_is_err_and}
use native.Mathlib.Omega.{arith}
use Rattle.write_plan.proofs.PlanLaws.{sized_fits}
use Rattle.write_plan.proofs.plan_header.Goals as goal

pub header_size-requires : goal.header_size-requires
header_size-requires c =
    let args = c.args in
    omega (arith, sized_fits args.name args.video _ args.packing _ (sym c.plan_sizes.ensures ∙ c.in_ok-plan_sizes.was))

pub returns : goal.returns
returns c = rw (c.header_size.ensures, ← c.audio_size.ensures, sym c.plan_sizes.ensures ∙ c.in_ok-plan_sizes.was)

pub returns-in_err-plan_sizes : goal.returns-in_err-plan_sizes
returns-in_err-plan_sizes c =
    let p = err_from_is_err_and c.from_residual.result c.from_residual.ensures.1 in rw (p.1, p.2)
    (rw (← c.audio_size.ensures, sym c.plan_sizes.ensures ∙ c.in_err-plan_sizes.was))
