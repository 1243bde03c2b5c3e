-- `write_blocks::block_head` meets its contract: with the numbers' bytes put in, it is the definition's list. Assumes nothing.
use Rattle.write_blocks.specs.Blocks.{head_of}
use Rattle.write_blocks.proofs.block_head.Goals as goal

pub returns : goal.returns
unfolding head_of
returns c =
    rw (
      c.copy_from_slice.ensures.after,
      c.copy_from_slice-2.ensures.after,
      c.copy_from_slice-3.ensures.after,
      c.copy_from_slice-4.ensures.after,
      c.low32.ensures,
      c.low32-2.ensures,
      c.low16.ensures,
      c.low16-2.ensures,
      c.padding-pad.ensures,
    )
