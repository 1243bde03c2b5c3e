-- `gate_fields::decode` meets its contract: both digits of each byte lie in the text. Assumes nothing.
use Rattle.laws.proofs.UptoLaws.{Upto}
use Rattle.laws.specs.Lists.{at}
use Rattle.gate_fields.specs.Fields.{decoded}
use Rattle.gate_fields.proofs.decode.Given as goal

abbrev pub invariant-loop-i : goal.invariant-loop-i
invariant-loop-i l = Upto (at (decoded l.text)) l.initial.bytes l.bytes l.i
