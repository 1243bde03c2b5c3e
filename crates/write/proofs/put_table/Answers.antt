-- `write::put_table` meets its contract: its head, its cell, its column's name, a zero and its data. Assumes nothing.
use mathlib.Core.Path.{ap}
use native.Mathlib.Omega.{arith}
use lib.ListN.{length}
use Rattle.laws.proofs.PutLaws.{put_as}
use Rattle.write.proofs.TablePutLaws.{head_fits, cell_fits, column_fits, zero-fits, blob-fits, table-put}
use Rattle.write.proofs.put_table.Goals as goal

pub put-at-requires : goal.put-at-requires
put-at-requires c =
    omega (arith, head_fits c.args.tag c.args.column.now c.args.cell.now c.args.blob.now c.args.out.now _ c.requires.0, ap length c.table_head-head.ensures)

pub put-at-requires-2 : goal.put-at-requires-2
put-at-requires-2 c =
    cell_fits c.args.tag c.args.column.now c.args.cell.now c.args.blob.now c.args.out.now _ c.requires.0 (put_as c.put-at.ensures c.table_head-head.ensures)

pub put-at-requires-3 : goal.put-at-requires-3
put-at-requires-3 c =
    column_fits c.args.tag c.args.column.now c.args.cell.now c.args.blob.now c.args.out.now _ c.requires.0 (put_as c.put-at.ensures c.table_head-head.ensures) c.put-at-2.ensures

pub put-at-requires-4 : goal.put-at-requires-4
put-at-requires-4 c =
    zero-fits c.args.tag c.args.column.now c.args.cell.now c.args.blob.now c.args.out.now _ c.requires.0 (put_as c.put-at.ensures c.table_head-head.ensures) c.put-at-2.ensures c.put-at-3.ensures

pub put-requires : goal.put-requires
put-requires c =
    blob-fits c.args.tag c.args.column.now c.args.cell.now c.args.blob.now c.args.out.now _ c.requires.0 (put_as c.put-at.ensures c.table_head-head.ensures) c.put-at-2.ensures c.put-at-3.ensures c.put-at-4.ensures

pub returns : goal.returns
returns c =
    let start = c in
    table-put start.args.tag start.args.column.now start.args.cell.now start.args.blob.now start.args.out.now _ start.requires.0 (put_as c.put-at.ensures c.table_head-head.ensures) c.put-at-2.ensures c.put-at-3.ensures c.put-at-4.ensures c.put.ensures
