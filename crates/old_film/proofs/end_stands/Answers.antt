-- `old_film::end_stands` meets its contract: its bytes are the definition's. Assumes nothing.
use Rattle.old_film.specs.Blocks.{old_head}
use Rattle.old_film.proofs.end_stands.Goals as goal

pub returns : goal.returns
unfolding old_head
returns c = c.stands_at.ensures
