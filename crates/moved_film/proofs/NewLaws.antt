-- The chunks of request 1's writer, without a key, are the turns of its form. Assumes nothing.
use Prim.Native.Nat.{ℕ, zero, suc, ◌+◌, ◌*◌, ◌/◌, ◌%◌, ◌^◌, ◌≤◌, ◌<◌}
use mathlib.Core.Path.{◌≡◌, refl, sym, ap, ap₂, ◌∙◌}
use mathlib.Core.List.{List, [], ◌∷◌, ◌++◌}
use mathlib.Core.Bool.{false}
use native.Mathlib.Omega.{arith}
use lib.ListN.{length, take, drop, length-drop}
use Rattle.unmasking.specs.declared.Unmasking.{Unmasking}
use Rattle.word.specs.Bytes.{padding}
use Rattle.write_blocks.specs.Blocks.{head_of, block_of}
use Rattle.write_plan.specs.declared.Stream.{Stream}
use Rattle.write_plan.specs.declared.Stream.TheVariants.{Video, Audio}
use Rattle.write_plan.specs.Payloads.{stored_as}
use Rattle.write_plan.specs.Films.{letters_of, bytes_of, next_chunk, chunk_blocks}
use Rattle.write_plan.proofs.TurnLaws.{turns_bytes, turns_over, next_bytes, next_none}
use Rattle.turns.specs.declared.Form.TheVariants.{New}
use Rattle.turns.specs.declared.Track.{Track}
use Rattle.turns.specs.declared.Track.TheVariants as track
use Rattle.turns.specs.Chunks.{shape_of, head_by, chunk_of}
use Rattle.turns.specs.Turns.{next_of, turns_of, chunks_of}

-- ---- a chunk

-- the writer knows one audio
abbrev pub track_of : Stream → Track
track_of Video = track.Video
track_of Audio = track.Audio 0

module _ (p : ℕ) (small : p < 0x20) where
  sizes_1 : (0x00180000 + p) / 2 ^ 24 % 2 ^ 8 ≡ 0
  sizes_1 = omega arith

  sizes_2 : (0x00180000 + p) / 2 ^ 16 % 2 ^ 8 ≡ 0x18
  sizes_2 = omega arith

  sizes_3 : (0x00180000 + p) / 2 ^ 8 % 2 ^ 8 ≡ p / 2 ^ 8 % 2 ^ 8
  sizes_3 = omega arith

  sizes_4 : (0x00180000 + p) % 2 ^ 8 ≡ p % 2 ^ 8
  sizes_4 = omega arith

pub chunk_new : (stream : Stream) (from : ℕ) (payload : List ℕ) → chunk_of New (track_of stream) from payload ≡ block_of (letters_of stream) payload
unfolding chunk_of shape_of head_by block_of head_of
chunk_new Video from payload =
    let h : padding (length payload) < 0x20 = omega arith in
    rw (sizes_1 (padding (length payload)) h, sizes_2 (padding (length payload)) h, sizes_3 (padding (length payload)) h, sizes_4 (padding (length payload)) h)
chunk_new Audio from payload =
    let h : padding (length payload) < 0x20 = omega arith in
    rw (sizes_1 (padding (length payload)) h, sizes_2 (padding (length payload)) h, sizes_3 (padding (length payload)) h, sizes_4 (padding (length payload)) h)

-- ---- turns, where nothing is masked

module _ (by : Unmasking) (v : by.video ≡ false) (a : by.audio ≡ false) where
  as_stored : (stream : Stream) (payload : List ℕ) → stored_as by stream payload ≡ payload
  as_stored Video payload = rw v
  as_stored Audio payload = rw a

  next_new : (stream : Stream) (from : ℕ) (bytes : List ℕ) → bytes_of (next_chunk by stream bytes) ≡ next_of New (track_of stream) from bytes
  unfolding next_of
  next_new stream from [] = next_none by stream
  next_new stream from (byte ∷ bytes) =
      next_bytes by stream (byte ∷ bytes) (omega arith) ∙ ap (block_of (letters_of stream)) (as_stored stream (take 0x10000 (byte ∷ bytes)))
      ∙ sym (chunk_new stream from (take 0x10000 (byte ∷ bytes)))

  empty : (bytes : List ℕ) → length bytes ≤ 0 → bytes ≡ []
  empty [] h = refl
  empty (byte ∷ bytes) h = absurd (omega arith)

  turns_new : (n from : ℕ) (video audio : List ℕ) → length video ≤ n * 0x10000 → length audio ≤ n * 0x10000
      → bytes_of (chunk_blocks by video audio) ≡ turns_of New n from video audio
  unfolding turns_of
  turns_new zero from video audio h k = rw (empty video (omega arith), empty audio (omega arith)) (turns_over by)
  turns_new (suc n) from video audio h k =
      turns_bytes by video audio
      ∙ ap₂ (λ (x y : List ℕ). x ++ y) (next_new Video from video)
      (ap₂ (λ (x y : List ℕ). x ++ y) (next_new Audio from audio)
      (turns_new n (from + 0x10000) (drop 0x10000 video) (drop 0x10000 audio) (rw length-drop (omega arith)) (rw length-drop (omega arith))))

  pub chunks_new : (video audio : List ℕ) → bytes_of (chunk_blocks by video audio) ≡ chunks_of New video audio
  chunks_new video audio = turns_new (length video + length audio) 0 video audio (omega arith) (omega arith)
