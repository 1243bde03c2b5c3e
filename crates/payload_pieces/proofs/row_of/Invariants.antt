-- `payload_pieces::row_of` meets its contract: below `lane` the bytes are the row's. Assumes nothing.
use Rattle.std.proofs.Common.{◌≡◌, length}
use Rattle.laws.specs.Lists.{at}
use Rattle.laws.proofs.UptoLaws.{Upto}
use Rattle.payload_pieces.proofs.row_of.Given as goal

abbrev pub invariant-loop-lane : goal.invariant-loop-lane
invariant-loop-lane l = (length l.bytes ≡ 32) × (length l.initial.row ≡ 32) × Upto (at l.bytes) l.initial.row l.row l.lane
