-- `old_film::video_block` meets its contract: the bytes that are copied into the constant make it the definition's list. Assumes nothing.
use Rattle.old_film.specs.Blocks.{old_head, table_block}
use Rattle.old_film.specs.Tables.{old_video}
use Rattle.old_film.proofs.video_block.Goals as goal

pub returns : goal.returns
unfolding table_block old_video old_head
returns c = rw (c.copy_from_slice.ensures.after, c.low32.ensures)
