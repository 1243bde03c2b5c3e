-- `turns::zeros_at` meets its contract: as many zeros as are asked for, of 32. Assumes nothing.
use mathlib.Core.Path.{sym}
use Rattle.turns.proofs.ChunkLaws.{some_zeros, zeros_length}
use Rattle.turns.proofs.zeros_at.Goals as goal

pub slice_bounds-stands_at-end : goal.slice_bounds-stands_at-end
slice_bounds-stands_at-end c = sym (zeros_length _ c.requires)

pub returns : goal.returns
returns c = rw (some_zeros _ c.requires) at c.stands_at.ensures
