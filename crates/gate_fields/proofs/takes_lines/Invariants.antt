-- `gate_fields::takes_lines` meets its contract: each turn goes past a line, and `take` can be called again. Assumes nothing.
use Rattle.std.proofs.Common.{length, ◌-◌}
use Rattle.gate_fields.proofs.takes_lines.Given as goal

abbrev pub invariant-loop-at : goal.invariant-loop-at
invariant-loop-at g l = goal.F-IsAlwaysCallable g l.take

abbrev pub decreases-loop-at : goal.decreases-loop-at
decreases-loop-at g l = length l.list - l.at
