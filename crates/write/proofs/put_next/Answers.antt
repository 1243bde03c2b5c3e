-- `write::put_next` meets its contract: a stream that goes on has a next chunk. Assumes nothing.
use Rattle.laws.proofs.PutLaws.{put_none, put_as}
use Rattle.write.proofs.ChunkPutLaws.{no_next, next_is, next_fits}
use Rattle.write.proofs.put_next.Goals as goal

pub returns-then-bytes-from : goal.returns-then-bytes-from
returns-then-bytes-from c =
    put_as (put_none _ _) (no_next c.args.unmasking c.args.stream c.args.bytes.now c.args.from c.if-bytes-from.true)

pub put_chunk-requires : goal.put_chunk-requires
put_chunk-requires c =
    next_fits c.args.unmasking c.args.stream c.args.bytes.now c.args.from c.if-bytes-from.false _ c.payload_from.ensures.2 c.args.out.now _ c.requires

pub returns : goal.returns
returns c =
    put_as c.put_chunk.ensures (next_is c.args.unmasking c.args.stream c.args.bytes.now c.args.from c.if-bytes-from.false _ c.payload_from.ensures.2)
