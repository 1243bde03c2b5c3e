-- `gate_sample::fill` meets its contract: x is the generator's number after as many steps as bytes are filled. Assumes nothing.
use Rattle.std.proofs.Common.{◌≡◌, ◌<◌}
use Rattle.laws.proofs.UptoLaws.{Upto}
use Rattle.gate_sample.specs.Recorded.{number, sample_byte}
use Rattle.gate_sample.proofs.fill.Given as goal

abbrev pub invariant-loop-byte : goal.invariant-loop-byte
invariant-loop-byte l = record {
  small : l.x < 0x80000000;
  steps : l.x ≡ number l.byte-index;
  filled : Upto sample_byte l.initial.bytes l.bytes l.byte-index;
}
