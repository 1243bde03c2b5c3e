-- `write::put_header` meets its contract: its blocks, one after the other. Assumes nothing.
use mathlib.Core.Path.{ap}
use native.Mathlib.Omega.{arith}
use lib.ListN.{length}
use Rattle.laws.proofs.PutLaws.{put_as}
use Rattle.write.proofs.TablePutLaws.{name_block_lem}
use Rattle.write.proofs.FilmPutLaws.{name_fits, codecs_fit, ends_fit, tables-fit, last_fits, header-put}
use Rattle.write.proofs.put_header.Goals as goal

pub put_table_block-at-requires : goal.put_table_block-at-requires
put_table_block-at-requires c =
    (rw (name_block_lem _ c.args.name.now c.name_cell-cell.ensures) (name_fits c.args.name.now c.args.packing c.args.out.now c.requires.0), omega arith, omega (arith, ap length c.name_cell-cell.ensures), c.requires.1)

pub put_codecs-at-requires : goal.put_codecs-at-requires
put_codecs-at-requires c =
    codecs_fit c.args.name.now c.args.packing c.args.out.now c.requires.0 (put_as c.put_table_block-at.ensures (name_block_lem _ c.args.name.now c.name_cell-cell.ensures))

pub put_each-at-requires : goal.put_each-at-requires
put_each-at-requires c =
    (ends_fit c.args.name.now c.args.packing c.args.out.now c.requires.0 (put_as c.put_table_block-at.ensures (name_block_lem _ c.args.name.now c.name_cell-cell.ensures)) c.put_codecs-at.ensures, omega arith)

pub put_each-at-requires-2 : goal.put_each-at-requires-2
put_each-at-requires-2 c =
    (tables-fit c.args.name.now c.args.packing c.args.out.now c.requires.0 (put_as c.put_table_block-at.ensures (name_block_lem _ c.args.name.now c.name_cell-cell.ensures)) c.put_codecs-at.ensures c.put_each-at.ensures, omega arith)

pub put_each-requires : goal.put_each-requires
put_each-requires c =
    (last_fits c.args.name.now c.args.packing c.args.out.now c.requires.0 (put_as c.put_table_block-at.ensures (name_block_lem _ c.args.name.now c.name_cell-cell.ensures)) c.put_codecs-at.ensures c.put_each-at.ensures c.put_each-at-2.ensures, omega arith)

pub returns : goal.returns
returns c =
    let start = c in
    header-put start.args.name.now start.args.packing start.args.out.now start.requires.0 (put_as c.put_table_block-at.ensures (name_block_lem _ start.args.name.now c.name_cell-cell.ensures)) c.put_codecs-at.ensures c.put_each-at.ensures c.put_each-at-2.ensures c.put_each.ensures
