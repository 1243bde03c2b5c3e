-- The pieces of a film, one after the other, are its chunks; and a payload is marked where a piece's is. Assumes nothing.
use Rattle.std.specs.Prelude.{Option, Some, None}
use Prim.Native.Nat.{ℕ, ◌+◌, ◌*◌, ◌≤◌, ◌<◌}
use mathlib.Core.Path.{◌≡◌, refl, sym, ap, ap₂, ◌∙◌}
use mathlib.Core.List.{List, [], ◌++◌, map}
use mathlib.Core.Bool.{Bool, true, false, cond, ◌||◌, ◌&&◌}
use mathlib.Core.Logic.{⊎_elim}
use native.Mathlib.Omega.{arith}
use lib.ListN.{length, take, drop, length-take, length-drop, drop_of_length-le}
use lib.Seq.{take_all, drop-drop}
use Rattle.laws.proofs.Side.{side}
use Rattle.key.specs.KeyTable.{keys_of}
use Rattle.mask.specs.Audio.{masked_audio}
use Rattle.signature.specs.Signatures.{contents_end, stands_at}
use Rattle.unmasking.specs.declared.Mask.TheVariants.{Clear, AudioMask}
use Rattle.unmasking.specs.declared.Unmasking.{Unmasking}
use Rattle.unmasking.specs.Unmasking.{is_adx, unmasking_of}
use Rattle.write_blocks.specs.Blocks.{block_of}
use Rattle.write_plan.specs.declared.Packing.{Packing}
use Rattle.write_plan.specs.declared.Stream.{Stream}
use Rattle.write_plan.specs.declared.Stream.TheVariants.{Video, Audio}
use Rattle.write_plan.specs.Payloads.{payloads_of, stored_as}
use Rattle.write_plan.specs.Films.{bytes_of, next_chunk, chunk_blocks}
use Rattle.write_plan.specs.Planning.{any_marked}
use Rattle.write_plan.proofs.PayloadLaws.{payloads_none, stored_length}
use Rattle.write_plan.proofs.PlanLaws.{marked_here, unmarked_more}
use Rattle.write_plan.proofs.TurnLaws.{turns_bytes, turns_over, next_bytes, next_none}
use Rattle.write_pieces.specs.declared.Piece.{Piece}
use Rattle.write_pieces.specs.Turns.{payload_len}
use Rattle.write_pieces.specs.Storing.{mask_in, stored_by}
use Rattle.write_pieces.specs.Writers.{Taken, stream_in, payload_of, Under, piece_bytes, bytes_by}
use Rattle.write_pieces.proofs.WalkLaws.{piece_at, made_of}

-- ---- a payload as it is stored

adx_stored : (number : ℕ) (payload : List ℕ) (adx : Bool) → cond adx (masked_audio (keys_of number) payload) payload ≡ stored_by number (cond (adx && true) AudioMask Clear) payload
adx_stored number payload true = refl
adx_stored number payload false = refl

pub stored_alike : (key : Option ℕ) (codec : Option ℕ) (number : ℕ) → Under number key → (stream : Stream) (payload : List ℕ)
    → stored_as (unmasking_of key codec) stream payload ≡ stored_by number (mask_in key codec stream) payload
stored_alike None codec number under Video payload = refl
stored_alike None codec number under Audio payload = refl
stored_alike (Some given) codec number under Video payload = rw under
stored_alike (Some given) codec number under Audio payload = rw under (adx_stored given payload (is_adx codec))

-- ---- payload k of a stream

module _ (bytes : List ℕ) (k : ℕ) where
  abbrev pub from_k : List ℕ
  from_k = drop (k * 0x10000) bytes

  pub length_k : length (take 0x10000 from_k) ≡ payload_len (length bytes) k
  length_k = simp (length-take, length-drop)

  pub payload_k : take (payload_len (length bytes) k) from_k ≡ take 0x10000 from_k
  payload_k =
      ⊎_elim
      (λ (h : length from_k < 0x10000).
      take_all (payload_len (length bytes) k) from_k (omega (arith, length-drop (k * 0x10000) bytes)) ∙ sym (take_all 0x10000 from_k (omega arith)))
      (λ (h : 0x10000 ≤ length from_k).
      let e : payload_len (length bytes) k ≡ 0x10000 = omega (arith, length-drop (k * 0x10000) bytes) in rw e)
      (side (length from_k) 0x10000)

  pub none_k : payload_len (length bytes) k ≡ 0 → from_k ≡ []
  none_k z = let h : length bytes ≤ k * 0x10000 = omega arith in drop_of_length-le bytes h

  pub some_k : (payload_len (length bytes) k ≡ 0 → ⊥) → 0 < length from_k
  some_k z = ⊎_elim (λ (h : length from_k < 1). absurd (z (omega (arith, length-drop (k * 0x10000) bytes)))) (λ (h : 1 ≤ length from_k). omega arith) (side (length from_k) 1)

pub next_k : (bytes : List ℕ) (k : ℕ) → drop 0x10000 (from_k bytes k) ≡ from_k bytes (k + 1)
next_k bytes k = let e : k * 0x10000 + 0x10000 ≡ (k + 1) * 0x10000 = omega arith in drop-drop 0x10000 (k * 0x10000) bytes ∙ ap (λ (n : ℕ). drop n bytes) e

-- ---- the chunks

module _ (number : ℕ) (packing : Packing) (under : Under number packing.key) (video audio : List ℕ) where
  abbrev by : Unmasking
  by = unmasking_of packing.key packing.audio_codec

  abbrev put : Piece → List ℕ
  put = piece_bytes number packing video audio

  -- from the video of round k on, and from its audio on
  abbrev seen : ℕ → List ℕ
  seen k = bytes_of (chunk_blocks by (from_k video k) (from_k audio k))

  abbrev heard : ℕ → List ℕ
  heard k = bytes_of (next_chunk by Audio (from_k audio k)) ++ seen (k + 1)

  turned : (k : ℕ) → seen k ≡ bytes_of (next_chunk by Video (from_k video k)) ++ heard k
  turned k =
      turns_bytes by (from_k video k) (from_k audio k)
      ∙ ap (λ (l : List ℕ). bytes_of (next_chunk by Video (from_k video k)) ++ (bytes_of (next_chunk by Audio (from_k audio k)) ++ l))
      (ap₂ (λ (v a : List ℕ). bytes_of (chunk_blocks by v a)) (next_k video k) (next_k audio k))

  chunk_k : (stream : Stream) (bytes : List ℕ) → bytes ≡ stream_in video audio stream → (k : ℕ) → (payload_len (length bytes) k ≡ 0 → ⊥)
      → bytes_of (next_chunk by stream (from_k bytes k)) ≡ put (piece_at stream (length bytes) k)
  unfolding block_of
  chunk_k stream bytes e k z =
      let payload = take 0x10000 (from_k bytes k) in
      let n : length (stored_as by stream payload) ≡ payload_len (length bytes) k = stored_length by stream payload ∙ length_k bytes k in
      let s : stored_as by stream payload ≡ stored_by number (mask_in packing.key packing.audio_codec stream) (take (payload_len (length bytes) k) (from_k bytes k)) =
      stored_alike packing.key packing.audio_codec number under stream payload
      ∙ ap (stored_by number (mask_in packing.key packing.audio_codec stream)) (sym (payload_k bytes k)) in
      next_bytes by stream (from_k bytes k) (some_k bytes k z) ∙ rw (n, s, ← e)

  pub chunks_made : (pieces : List Piece) → Taken (length video) (length audio) 0 pieces → bytes_of (chunk_blocks by video audio) ≡ bytes_by put pieces
  unfolding bytes_by
  chunks_made =
      made_of (length video) (length audio) (λ piece rest. put piece ++ rest) [] seen heard
      (λ k z. turned k ∙ ap (λ (l : List ℕ). l ++ heard k) (chunk_k Video video refl k z))
      (λ k z. turned k ∙ rw (none_k video k z, next_none by Video))
      (λ k z. ap (λ (l : List ℕ). l ++ seen (k + 1)) (chunk_k Audio audio refl k z))
      (λ k z. rw (none_k audio k z, next_none by Audio))
      (λ k z y. rw (none_k video k z, none_k audio k y) (turns_over by))
      (bytes_by put) refl (λ piece pieces. refl)

-- ---- the end marker at the front of a payload

marked_more : (stream : List ℕ) → any_marked (payloads_of stream) ≡ (stands_at contents_end (take 0x10000 stream) 0 || any_marked (payloads_of (drop 0x10000 stream)))
marked_more stream = by (stands_at contents_end (take 0x10000 stream) 0) refl
  where
    by : (t : Bool) → stands_at contents_end (take 0x10000 stream) 0 ≡ t → any_marked (payloads_of stream) ≡ (t || any_marked (payloads_of (drop 0x10000 stream)))
    by true e = marked_here stream e
    by false e = unmarked_more stream e

or_last : (s m a : Bool) → ((s || m) || a) ≡ (s || (m || a))
or_last true m a = refl
or_last false m a = refl

or_first : (s m a : Bool) → (m || (s || a)) ≡ (s || (m || a))
or_first true true a = refl
or_first true false a = refl
or_first false m a = refl

module _ (video audio : List ℕ) where
  abbrev marked : List ℕ → ℕ → Bool
  marked bytes k = any_marked (payloads_of (from_k bytes k))

  abbrev of_piece : Piece → Bool
  of_piece piece = stands_at contents_end (payload_of video audio piece) 0

  marked_k : (stream : Stream) (bytes : List ℕ) → bytes ≡ stream_in video audio stream → (k : ℕ)
      → marked bytes k ≡ (of_piece (piece_at stream (length bytes) k) || marked bytes (k + 1))
  marked_k stream bytes e k = marked_more (from_k bytes k) ∙ rw (next_k bytes k, ← e, payload_k bytes k)

  unmarked_k : (bytes : List ℕ) (k : ℕ) → payload_len (length bytes) k ≡ 0 → marked bytes k ≡ false
  unfolding any_marked
  unmarked_k bytes k z = rw (none_k bytes k z, payloads_none)

  -- past a stream's end it stays so
  over_k : (size k : ℕ) → payload_len size k ≡ 0 → payload_len size (k + 1) ≡ 0
  over_k size k z = omega arith

  pub marks_made : (pieces : List Piece) → Taken (length video) (length audio) 0 pieces
      → (any_marked (payloads_of video) || any_marked (payloads_of audio)) ≡ any_marked (map (payload_of video audio) pieces)
  unfolding any_marked
  marks_made =
      made_of (length video) (length audio) (λ piece rest. of_piece piece || rest) false (λ k. marked video k || marked audio k) (λ k. marked video (k + 1) || marked audio k)
      (λ k z. ap (λ (t : Bool). t || marked audio k) (marked_k Video video refl k) ∙ or_last (of_piece (piece_at Video (length video) k)) (marked video (k + 1)) (marked audio k))
      (λ k z. rw (unmarked_k video k z, unmarked_k video (k + 1) (over_k (length video) k z)))
      (λ k z. ap (λ (t : Bool). marked video (k + 1) || t) (marked_k Audio audio refl k)
      ∙ or_first (of_piece (piece_at Audio (length audio) k)) (marked video (k + 1)) (marked audio (k + 1)))
      (λ k z. rw (unmarked_k audio k z, unmarked_k audio (k + 1) (over_k (length audio) k z)))
      (λ k z y. rw (unmarked_k video k z, unmarked_k audio k y))
      (λ pieces. any_marked (map (payload_of video audio) pieces)) refl (λ piece pieces. refl)
