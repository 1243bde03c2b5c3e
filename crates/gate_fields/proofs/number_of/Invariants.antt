-- `gate_fields::number_of` meets its contract: what is left has the answer of the whole text. Assumes nothing.
use Rattle.std.proofs.Common.{◌≡◌, ◌≤◌, drop}
use Rattle.gate_fields.specs.Fields.{number_from}
use Rattle.gate_fields.proofs.number_of.Given as goal

abbrev pub invariant-loop-byte : goal.invariant-loop-byte
invariant-loop-byte l = record {
  same : number_from l.number (drop l.byte-index l.text) ≡ number_from 0 l.text;
  small : l.number ≤ 0xFFFFFFFF;
}
