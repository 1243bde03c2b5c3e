-- `turns::turn_in` meets its contract: the audio is read behind the video's chunk. Assumes nothing.
use Prim.Native.Nat.{◌-◌}
use mathlib.Core.Path.{refl}
use lib.ListN.{length, take, drop}
use Rattle.turns.proofs.TurnLaws.{turn_answers}
use Rattle.turns.proofs.turn_in.Goals as goal

pub returns : goal.returns
returns c =
    let a = c.args in
    let middle = c.chunk_size-middle.result in
    turn_answers a.form a.from a.seen a.heard a.bytes.now (take (length a.bytes.now - middle) (drop middle a.bytes.now)) c.payload_in-video.result c.payload_in-audio.result middle _ _ c.payload_in-video.ensures c.chunk_size-middle.ensures refl c.payload_in-audio.ensures c.chunk_size-last.ensures refl
