-- `extract::write_streams` meets its contract: what was written of each stream, with the pieces of the chunks from here on, is what the whole stream
-- leaves. Each chunk leaves fewer bytes, and each piece has room. Assumes nothing.
use Prim.Native.Nat.{◌-◌}
use lib.ListN.{length}
use Rattle.extract.proofs.StreamLaws.{video_under, audio_under}
use Rattle.extract.proofs.WrittenLaws.{Writing}
use Rattle.extract.proofs.write_streams.Given as goal

abbrev pub invariant-loop-chunk : goal.invariant-loop-chunk
invariant-loop-chunk l = Writing (video_under l.unmasking) l.container l.reading l.start l.initial.video l.at l.seen l.video × Writing (audio_under l.unmasking) l.container l.reading l.start l.initial.audio l.at l.heard l.audio

abbrev pub decreases-loop-chunk : goal.decreases-loop-chunk
decreases-loop-chunk l = length l.container - l.at
