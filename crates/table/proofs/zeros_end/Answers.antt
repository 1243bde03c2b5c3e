-- `table::zeros_end` meets its contract: the end among the first n bytes is the end among all. Assumes nothing.
use mathlib.Core.Path.{refl, sym, ◌∙◌}
use native.Mathlib.Omega.{arith}
use Rattle.table.proofs.ZeroLaws.{end_here, end_below, end_none}
use Rattle.table.proofs.zeros_end.Goals as goal

pub loop-n-init : goal.loop-n-init
loop-n-init c = (refl, omega arith)

pub returns-then-body-n-eq0 : goal.returns-then-body-n-eq0
returns-then-body-n-eq0 c =
    sym (end_here c.args.body.now c.loop-n.n (omega arith) c.if-body-n-eq0.true) ∙ c.loop-n.invariant.0

pub loop-n-preserved : goal.loop-n-preserved
loop-n-preserved c =
    (sym (end_below c.args.body.now c.loop-n.n (omega arith) c.if-body-n-eq0.false) ∙ c.loop-n.invariant.0, omega arith)

pub returns : goal.returns
returns c =
    sym (end_none c.args.body.now c.loop-n.n (omega arith)) ∙ c.loop-n.invariant.0
