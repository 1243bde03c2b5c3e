-- `old_film::name_head` meets its contract: the bytes that are copied into the constant make it the definition's list. Assumes nothing.
use Rattle.old_film.specs.Blocks.{old_head}
use Rattle.old_film.proofs.name_head.Goals as goal

pub returns : goal.returns
unfolding old_head
returns c = rw (c.copy_from_slice.ensures.after, c.copy_from_slice-2.ensures.after, c.copy_from_slice-3.ensures.after, c.low32.ensures, c.low32-2.ensures, c.low32-3.ensures)
