-- `mask::xor_of` meets its contract: below `lane` the bytes are the XORs. Assumes nothing.
use mathlib.Core.Path.{◌≡◌}
use lib.ListN.{length}
use lib.Bits.{bit_xor}
use Rattle.laws.specs.Lists.{at}
use Rattle.laws.proofs.UptoLaws.{Upto}
use Rattle.mask.proofs.xor_of.Given as goal

abbrev pub invariant-loop-lane : goal.invariant-loop-lane
invariant-loop-lane l = (length l.bytes ≡ 32) × (length l.initial.xors ≡ 32) × Upto (λ i. bit_xor (at l.bytes i) (at l.row i)) l.initial.xors l.xors l.lane
