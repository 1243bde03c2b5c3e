-- `old_film::audio_block` meets its contract: the bytes that are copied into the constant make it the definition's list. Assumes nothing.
use Rattle.old_film.specs.Blocks.{old_head, table_block}
use Rattle.old_film.specs.Tables.{old_audio}
use Rattle.old_film.proofs.audio_block.Goals as goal

pub returns : goal.returns
unfolding table_block old_audio old_head
returns c = rw (c.copy_from_slice.ensures.after, c.bytes32.ensures)
