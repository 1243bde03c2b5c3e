-- `gate_fields::next_line` meets its contract: the line goes on up to i. Assumes nothing.
use Rattle.std.proofs.Common.{◌≡◌, ◌+◌, drop}
use Rattle.gate_fields.specs.Fields.{line_length}
use Rattle.gate_fields.proofs.next_line.Given as goal

abbrev pub invariant-loop-i : goal.invariant-loop-i
invariant-loop-i l = l.i + line_length (drop l.i l.list) ≡ l.at + line_length (drop l.at l.list)
