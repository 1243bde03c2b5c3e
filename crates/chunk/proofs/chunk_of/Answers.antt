-- `chunk::chunk_of` meets its contract: each field is what the opening says. Assumes nothing.
use mathlib.Core.Path.{refl}
use Rattle.chunk.specs.Chunks.{chunk_of}
use Rattle.chunk.proofs.chunk_of.Goals as goal

pub returns : goal.returns
unfolding chunk_of
returns c = refl
