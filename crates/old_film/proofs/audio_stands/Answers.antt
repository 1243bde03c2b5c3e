-- `old_film::audio_stands` meets its contract: the block is looked for. Assumes nothing.
use Rattle.old_film.proofs.audio_stands.Goals as goal

pub returns : goal.returns
returns c = rw (← c.audio_block-block.ensures) c.stands_at.ensures
