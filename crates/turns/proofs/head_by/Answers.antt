-- `turns::head_by` meets its contract: with the numbers' bytes put in, it is the definition's list. Assumes nothing.
use Rattle.turns.specs.Chunks.{head_by}
use Rattle.turns.proofs.head_by.Goals as goal

pub returns : goal.returns
unfolding head_by
returns c =
    rw (
      c.copy_from_slice.ensures.after,
      c.copy_from_slice-2.ensures.after,
      c.copy_from_slice-3.ensures.after,
      c.copy_from_slice-4.ensures.after,
      c.copy_from_slice-5.ensures.after,
      c.low32.ensures,
      c.low32-2.ensures,
      c.low32-3.ensures,
      c.low32-4.ensures,
      c.low32-5.ensures,
    )
