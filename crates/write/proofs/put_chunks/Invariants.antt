-- `write::put_chunks` meets its contract: what is put, with the chunks of this round and later put after it, is what all chunks leave. Assumes nothing.
use Rattle.std.proofs.Common.{◌*◌}
use Rattle.write.proofs.FilmPutLaws.{ChunksLeft}
use Rattle.write.proofs.put_chunks.Given as goal

abbrev pub invariant-loop-round : goal.invariant-loop-round
invariant-loop-round l = ChunksLeft l.unmasking l.video l.audio l.initial.out l.start l.out l.at (l.round * 0x10000)
