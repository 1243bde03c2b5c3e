-- `gate_fields::gap_in` meets its contract: no space stands before i. Assumes nothing.
use Rattle.std.proofs.Common.{arith}
use Rattle.gate_fields.proofs.StepLaws.{gap_here, gap_later, no_gap}
use Rattle.gate_fields.proofs.gap_in.Goals as goal

pub returns-then-byte-eq32-clause-value : goal.returns-then-byte-eq32-clause-value
returns-then-byte-eq32-clause-value c = let here = gap_here c.args.text.now c.loop-i.i (omega arith) c.if-byte-eq32.true in omega (arith, here)

pub loop-i-preserved : goal.loop-i-preserved
loop-i-preserved c =
    let later = gap_later c.args.text.now c.loop-i.i (omega arith) c.if-byte-eq32.false in
    omega (arith, later)

pub returns-clause-value : goal.returns-clause-value
returns-clause-value c =
    let none = no_gap c.args.text.now c.loop-i.i (omega arith) in
    omega (arith, none)
