-- `turns::payload_in` meets its contract: a stream that does not go on has no payload. Assumes nothing.
use Rattle.turns.specs.Chunks.{payload_in}
use Rattle.turns.proofs.ChunkLaws.{none_answers}
use Rattle.turns.proofs.payload_in.Goals as goal

pub returns-then-going : goal.returns-then-going
returns-then-going c = rw c.if-going.true c.held_by.ensures

pub returns : goal.returns
unfolding payload_in
returns c =
    none_answers c.args.form c.args.track c.args.from c.args.going c.args.bytes.now _ (rw c.if-going.false) c.nothing.ensures
