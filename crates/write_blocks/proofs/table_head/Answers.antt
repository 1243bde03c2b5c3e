-- `write_blocks::table_head` meets its contract: with the numbers' bytes put in, it is the definition's list. Assumes nothing.
use Rattle.write_blocks.specs.Tables.{table_head}
use Rattle.write_blocks.proofs.table_head.Goals as goal

pub returns : goal.returns
unfolding table_head
returns c =
    rw (
      c.copy_from_slice.ensures.after,
      c.copy_from_slice-2.ensures.after,
      c.copy_from_slice-3.ensures.after,
      c.copy_from_slice-4.ensures.after,
      c.copy_from_slice-5.ensures.after,
      c.copy_from_slice-6.ensures.after,
      c.copy_from_slice-7.ensures.after,
      c.low32.ensures,
      c.low32-2.ensures,
      c.low32-3.ensures,
      c.low16.ensures,
      c.low16-2.ensures,
      c.bytes32.ensures,
    )
