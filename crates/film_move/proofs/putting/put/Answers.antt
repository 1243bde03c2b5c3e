-- `film_move::putting::put` meets its contract: the bytes are copied to their place. Assumes nothing.
use mathlib.Core.Path.{refl}
use Rattle.laws.proofs.LentLaws.{put_copied}
use Rattle.film_move.proofs.putting.put.Goals as goal

pub returns : goal.returns
returns c = record { ends = refl; holds = put_copied c.args.bytes.now _ _ _ c.requires c.copy_from_slice.ensures.after }
