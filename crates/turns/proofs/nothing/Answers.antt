-- `turns::nothing` meets its contract: the end marker is no part of no bytes. Assumes nothing.
use mathlib.Core.Path.{refl}
use Rattle.signature.specs.Signatures.{same_bytes}
use Rattle.turns.proofs.nothing.Goals as goal

pub returns : goal.returns
unfolding same_bytes
returns c = refl
