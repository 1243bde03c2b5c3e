-- The chunks by turns: the next of each stream, and then those of the rests. Assumes nothing.
use Prim.Native.Nat.{ℕ, ◌<◌}
use mathlib.Core.Path.{◌≡◌, refl, ap, ◌∙◌}
use mathlib.Core.List.{List, [], ◌∷◌, ◌++◌, map, append-nil}
use native.Mathlib.Omega.{arith}
use lib.ListN.{length, take, drop}
use Rattle.unmasking.specs.declared.Unmasking.{Unmasking}
use Rattle.write_blocks.specs.Blocks.{block_of}
use Rattle.write_plan.specs.declared.Stream.{Stream}
use Rattle.write_plan.specs.declared.Stream.TheVariants.{Video, Audio}
use Rattle.write_plan.specs.Payloads.{stored_as, by_turns}
use Rattle.write_plan.specs.Films.{letters_of, bytes_of, block_in, chunks_of, next_chunk, chunk_blocks}
use Rattle.write_plan.proofs.PayloadLaws.{payloads_none, payloads_more}
use Rattle.write_plan.proofs.BlockLaws.{bytes_append}

pub turns_none : {A : Type 0} (some : List A) → by_turns some [] ≡ some
unfolding by_turns
turns_none [] = refl
turns_none (first ∷ rest) = refl

-- the next chunk of a stream, and the chunks of the rest
pub chunks_more : (by : Unmasking) (stream : Stream) (bytes : List ℕ) → chunks_of by stream bytes ≡ next_chunk by stream bytes ++ chunks_of by stream (drop 0x10000 bytes)
chunks_more by stream [] = rw payloads_none
chunks_more by stream (byte ∷ bytes) = ap (map (λ payload. block_in stream (stored_as by stream payload))) (payloads_more (byte ∷ bytes) (omega arith))

-- the next chunk of each stream, and the chunks of the rests by turns
pub turns_more : (by : Unmasking) (video audio : List ℕ)
    → chunk_blocks by video audio ≡ next_chunk by Video video ++ (next_chunk by Audio audio ++ chunk_blocks by (drop 0x10000 video) (drop 0x10000 audio))
unfolding chunk_blocks by_turns
turns_more by [] [] = rw payloads_none
turns_more by [] (b ∷ audio) = rw (payloads_none, chunks_more by Audio (b ∷ audio))
turns_more by (a ∷ video) [] = rw (payloads_none, chunks_more by Video (a ∷ video)) (rw (turns_none (chunks_of by Video (drop 0x10000 (a ∷ video)))))
turns_more by (a ∷ video) (b ∷ audio) = rw (chunks_more by Video (a ∷ video), chunks_more by Audio (b ∷ audio))

pub turns_bytes : (by : Unmasking) (video audio : List ℕ)
    → bytes_of (chunk_blocks by video audio)
    ≡ bytes_of (next_chunk by Video video) ++ (bytes_of (next_chunk by Audio audio) ++ bytes_of (chunk_blocks by (drop 0x10000 video) (drop 0x10000 audio)))
turns_bytes by video audio =
    let rest = chunk_blocks by (drop 0x10000 video) (drop 0x10000 audio) in
    ap bytes_of (turns_more by video audio) ∙ bytes_append (next_chunk by Video video) (next_chunk by Audio audio ++ rest)
    ∙ ap (λ (l : List ℕ). bytes_of (next_chunk by Video video) ++ l) (bytes_append (next_chunk by Audio audio) rest)

pub turns_over : (by : Unmasking) → bytes_of (chunk_blocks by [] []) ≡ []
unfolding chunk_blocks by_turns bytes_of
turns_over by = rw payloads_none

-- the next chunk, where the stream goes on
pub next_bytes : (by : Unmasking) (stream : Stream) (bytes : List ℕ) → 0 < length bytes
    → bytes_of (next_chunk by stream bytes) ≡ block_of (letters_of stream) (stored_as by stream (take 0x10000 bytes))
unfolding bytes_of
next_bytes by stream [] h = absurd (omega arith)
next_bytes by stream (byte ∷ bytes) h = append-nil (block_of (letters_of stream) (stored_as by stream (take 0x10000 (byte ∷ bytes))))

pub next_none : (by : Unmasking) (stream : Stream) → bytes_of (next_chunk by stream []) ≡ []
unfolding bytes_of
next_none by stream = refl
