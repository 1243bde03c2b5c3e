-- `write::put_codec` meets its contract: each case has its table. Assumes nothing.
use mathlib.Core.Path.{ap}
use native.Mathlib.Omega.{arith}
use lib.ListN.{length}
use Rattle.laws.proofs.PutLaws.{put_as}
use Rattle.write.proofs.TablePutLaws.{codec_block_lem, absent_block}
use Rattle.write.proofs.put_codec.Goals as goal

pub put_table_block-requires : goal.put_table_block-requires
put_table_block-requires c =
    (rw (codec_block_lem c.args.letters c.args.column.now c.args.codec _ _ c.bytes32-cell.ensures c.in-Some.is) c.requires.0, c.requires.1, omega (arith, ap length c.bytes32-cell.ensures), omega arith)

pub put_block-requires : goal.put_block-requires
put_block-requires c =
    (rw (absent_block c.args.letters c.args.column.now c.args.codec c.in-None.is) c.requires.0, omega arith)

pub returns-in-Some : goal.returns-in-Some
returns-in-Some c =
    put_as c.put_table_block.ensures (codec_block_lem c.args.letters c.args.column.now c.args.codec _ _ c.bytes32-cell.ensures c.in-Some.is)

pub returns-in-None : goal.returns-in-None
returns-in-None c =
    put_as c.put_block.ensures (absent_block c.args.letters c.args.column.now c.args.codec c.in-None.is)
