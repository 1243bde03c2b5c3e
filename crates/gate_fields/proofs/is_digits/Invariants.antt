-- `gate_fields::is_digits` meets its contract: what is left has the answer of the whole text. Assumes nothing.
use Rattle.std.proofs.Common.{◌≡◌, drop}
use Rattle.gate_fields.specs.Fields.{is_digits}
use Rattle.gate_fields.proofs.is_digits.Given as goal

abbrev pub invariant-loop-byte : goal.invariant-loop-byte
invariant-loop-byte l = is_digits (drop l.byte-index l.text) ≡ is_digits l.text
