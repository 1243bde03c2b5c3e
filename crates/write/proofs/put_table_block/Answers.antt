-- `write::put_table_block` meets its contract: its head, its table, and its padding. Assumes nothing.
use mathlib.Core.Path.{sym}
use native.Mathlib.Omega.{arith}
use Rattle.write_blocks.specs.Tables.{table_with}
use Rattle.write_plan.proofs.LengthLaws.{table_length}
use Rattle.write.proofs.BlockPutLaws.{head_fits, inside_fits, padding-fits, block-put}
use Rattle.write.proofs.put_table_block.Goals as goal

pub put_head-at-requires : goal.put_head-at-requires
put_head-at-requires c =
    (head_fits c.args.letters (table_with c.args.tag c.args.column.now c.args.cell.now c.args.blob.now) c.args.out.now _ _ (sym (table_length c.args.tag c.args.column.now c.args.cell.now c.args.blob.now)) c.requires.0, omega arith)

pub put_table-at-requires : goal.put_table-at-requires
put_table-at-requires c =
    (inside_fits c.args.letters (table_with c.args.tag c.args.column.now c.args.cell.now c.args.blob.now) c.args.out.now _ _ (sym (table_length c.args.tag c.args.column.now c.args.cell.now c.args.blob.now)) c.requires.0 c.put_head-at.ensures, c.requires.1, c.requires.2, c.requires.3)

pub put_padding-requires : goal.put_padding-requires
put_padding-requires c =
    padding-fits c.args.letters (table_with c.args.tag c.args.column.now c.args.cell.now c.args.blob.now) c.args.out.now _ _ (sym (table_length c.args.tag c.args.column.now c.args.cell.now c.args.blob.now)) c.requires.0 c.put_head-at.ensures c.put_table-at.ensures

pub returns : goal.returns
returns c =
    block-put c.args.letters (table_with c.args.tag c.args.column.now c.args.cell.now c.args.blob.now) c.args.out.now _ _ (sym (table_length c.args.tag c.args.column.now c.args.cell.now c.args.blob.now)) c.requires.0 c.put_head-at.ensures c.put_table-at.ensures c.put_padding.ensures
