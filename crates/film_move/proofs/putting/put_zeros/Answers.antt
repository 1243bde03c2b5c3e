-- `film_move::putting::put_zeros` meets its contract: so many zeros, of 32. Assumes nothing.
use mathlib.Core.Path.{sym}
use Rattle.laws.proofs.PutLaws.{put_as}
use Rattle.turns.proofs.ChunkLaws.{some_zeros, zeros_length}
use Rattle.film_move.proofs.putting.put_zeros.Goals as goal

pub slice_bounds-put-end : goal.slice_bounds-put-end
slice_bounds-put-end c = sym (zeros_length _ c.requires.1)

pub put-requires : goal.put-requires
put-requires c = rw (zeros_length c.args.count c.requires.1) c.requires.0

pub returns : goal.returns
returns c = put_as c.put.ensures (some_zeros _ c.requires.1)
