-- `gate_statements::replay` ends: what is left of the list gets shorter. Assumes nothing.
use Rattle.std.proofs.Common.{length}
use Rattle.gate_statements.proofs.replay.Given as goal

abbrev pub decreases-loop-left : goal.decreases-loop-left
decreases-loop-left l = length l.left
