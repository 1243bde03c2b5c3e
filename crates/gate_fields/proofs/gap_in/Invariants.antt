-- `gate_fields::gap_in` meets its contract: no space stands before i. Assumes nothing.
use Rattle.std.proofs.Common.{◌≡◌, ◌+◌, drop}
use Rattle.gate_fields.specs.Fields.{gap_in}
use Rattle.gate_fields.proofs.gap_in.Given as goal

abbrev pub invariant-loop-i : goal.invariant-loop-i
invariant-loop-i l = l.i + gap_in (drop l.i l.text) ≡ gap_in l.text
