-- `write_plan::within_limit` meets its contract: what is longer than the limit makes a film that is; else the film's size is answered. Assumes nothing.
use Rattle.std.proofs.Common.{◌∙◌, arith}
use Rattle.write_plan.proofs.PlanLaws.{part_over}
use Rattle.write_plan.proofs.within_limit.Goals as goal

pub returns-then-longest-gt-LONGEST : goal.returns-then-longest-gt-LONGEST
returns-then-longest-gt-LONGEST c = c.refused.ensures ∙ part_over c.args.name c.args.video c.args.audio c.args.packing (omega (arith, c.max.ensures, c.max-longest.ensures))
