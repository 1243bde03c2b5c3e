-- `write_plan::plan_sizes` meets its contract: a codec alone is refused first. Assumes nothing.
use mathlib.Core.Path.{sym, ◌∙◌}
use Rattle.write_plan.proofs.PlanLaws.{sized_alone, sized_given}
use Rattle.write_plan.proofs.plan_sizes.Goals as goal

pub returns-then-is_alone : goal.returns-then-is_alone
returns-then-is_alone c = c.refused.ensures ∙ sized_alone c.args.name c.args.video c.args.audio c.args.packing (sym c.is_alone.ensures ∙ c.if-is_alone.true)

pub returns : goal.returns
returns c = c.within_limit.ensures ∙ sized_given c.args.name c.args.video c.args.audio c.args.packing (sym c.is_alone.ensures ∙ c.if-is_alone.false)
