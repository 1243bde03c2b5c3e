-- `mask::xor_in` meets its contract: below `lane` the bytes are XORed, and the rest are as they were. Assumes nothing.
use Prim.Native.Nat.{◌≤◌}
use lib.ListN.{length}
use lib.Bits.{bit_xor}
use Rattle.laws.specs.Lists.{at}
use Rattle.laws.proofs.UptoLaws.{Upto}
use Rattle.mask.proofs.xor_in.Given as goal

abbrev pub invariant-loop-lane : goal.invariant-loop-lane
invariant-loop-lane l = (length l.initial.bytes ≤ 32) × Upto (λ i. bit_xor (at l.initial.bytes i) (at l.row i)) l.initial.bytes l.bytes l.lane
