-- `gate_fields::next_line` meets its contract: the line goes on up to i. Assumes nothing.
use Rattle.std.proofs.Common.{arith}
use Rattle.gate_fields.proofs.StepLaws.{line_ends, line_goes_on, no_line}
use Rattle.gate_fields.proofs.next_line.Goals as goal

pub returns-then-list-i-eq10-clause-value : goal.returns-then-list-i-eq10-clause-value
returns-then-list-i-eq10-clause-value c = let ends = line_ends c.args.list.now c.loop-i.i (omega arith) c.if-list-i-eq10.true in omega (arith, ends)

pub loop-i-preserved : goal.loop-i-preserved
loop-i-preserved c =
    let on = line_goes_on c.args.list.now c.loop-i.i (omega arith) c.if-list-i-eq10.false in
    omega (arith, on)

pub returns-clause-value : goal.returns-clause-value
returns-clause-value c =
    let none = no_line c.args.list.now c.loop-i.i (omega arith) in
    grind (arith, none, no_line c.args.list.now c.args.at)
