-- `write::put_codecs` meets its contract: one block, and with audio a second. Assumes nothing.
use native.Mathlib.Omega.{arith}
use Rattle.write_plan.specs.Films.{codec_in}
use Rattle.write.proofs.EachPutLaws.{first_fits, second_fits, both_put, one_put}
use Rattle.write.proofs.put_codecs.Goals as goal

pub put_codec-at-requires : goal.put_codec-at-requires
put_codec-at-requires c =
    (first_fits (codec_in c.args.packing) c.args.out.now c.args.at c.args.packing.audio c.requires, omega arith)

pub put_codec-requires : goal.put_codec-requires
put_codec-requires c =
    (second_fits (codec_in c.args.packing) c.args.out.now c.args.at c.put_codec-at.ensures c.args.packing.audio c.if-packing.true c.requires, omega arith)

pub returns-then-packing : goal.returns-then-packing
returns-then-packing c =
    both_put (codec_in c.args.packing) c.args.out.now c.args.at c.put_codec-at.ensures c.args.packing.audio c.if-packing.true c.put_codec.ensures

pub returns : goal.returns
returns c =
    one_put (codec_in c.args.packing) c.args.out.now c.args.at c.put_codec-at.ensures c.args.packing.audio c.if-packing.false
