-- `cell::zero_from` meets its contract: the search from `i` on has the answer of the whole search. Assumes nothing.
use Rattle.std.proofs.Common.{sym, ◌∙◌, arith}
use Rattle.cell.proofs.Scan.{here, later, over}
use Rattle.cell.proofs.zero_from.Goals as goal

pub returns-then-body-i-eq0 : goal.returns-then-body-i-eq0
returns-then-body-i-eq0 c =
    sym (here c.args.body.now c.loop-i.i (omega arith) c.if-body-i-eq0.true) ∙ c.loop-i.invariant

pub loop-i-preserved : goal.loop-i-preserved
loop-i-preserved c =
    sym (later c.args.body.now c.loop-i.i (omega arith) c.if-body-i-eq0.false) ∙ c.loop-i.invariant

pub returns : goal.returns
returns c =
    sym (over c.args.body.now c.loop-i.i (omega arith)) ∙ c.loop-i.invariant
