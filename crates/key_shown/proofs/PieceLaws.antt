-- What a chunk gives to both streams is equal under two keys exactly when T agrees in the lanes that the chunk shows; and so are the streams of all chunks.
-- Streams are equal exactly when they are piece by piece, since a piece is as long under every key. Assumes nothing.
use Rattle.std.specs.Prelude.{Option, Some, Ok}
use Prim.Native.Nat.{ℕ, ◌≤◌, ◌<◌, max}
use mathlib.Core.Path.{◌≡◌, refl, sym, ap, ap₂, ◌∙◌}
use mathlib.Core.Logic.Iff
use mathlib.Core.Logic.{◌↔◌, ⊎_elim}
use mathlib.Core.Bool.{Bool, true, false, cond, ◌&&◌}
use mathlib.Core.List.{List, [], ◌∷◌, ◌++◌}
use native.Mathlib.Omega.{arith}
use lib.ListN.{length, take, drop}
use lib.Seq.{take_at, drop_at}
use lib.Dec.{ltb, eqb}
use borrow.Author.Tests.{ltb-true, ltb-false}
use Rattle.laws.proofs.Side.{side}
use Rattle.key.specs.KeyTable.{keys_of}
use Rattle.key.specs.CountingBits.{SameEvenLanes}
use Rattle.key.proofs.Promises.{EvenLanesTellTheBits}
use Rattle.mask.specs.Video.{unmasked_video}
use Rattle.mask.specs.Audio.{masked_audio}
use Rattle.mask.specs.Positions.{lanes_shown}
use Rattle.mask.proofs.Promises.{ShortVideoStays, VideoEqualExactlyWhenBitsAgree, ShortAudioStays, AudioEqualExactlyWhenLanesAgree}
use Rattle.reading.specs.declared.Applied.{Applied}
use Rattle.chunk.specs.declared.Kind.{Kind}
use Rattle.chunk.specs.declared.Kind.TheVariants.{Video, Audio, Other, End}
use Rattle.chunk.specs.declared.Chunk.{Chunk}
use Rattle.chunk.specs.Chunks.{chunk_at, payload_of}
use Rattle.chunk.proofs.Promises.{PayloadsLieWithin}
use Rattle.walk.specs.Walks.{walk_from, joined}
use Rattle.walk.proofs.WalkLaws.{every_walk}
use Rattle.unmasking.specs.declared.Unmasking.{Unmasking}
use Rattle.unmasking.specs.Unmasking.{is_adx, unmasking_of, clear_video, clear_audio}
use Rattle.extract.specs.Streams.{video_part, audio_part, video_piece, audio_piece, video_stream, audio_stream}
use Rattle.extract.proofs.StreamLaws.{video_keeps, audio_keeps}
use Rattle.key_shown.specs.Shown.{shown_as, shown_in, shown_by}

-- lists put together of parts, of which the first are equally long
pub split : (p p' r r' : List ℕ) → length p ≡ length p' → p ++ r ≡ p' ++ r' → (p ≡ p') × (r ≡ r')
split p p' r r' l e = (
  sym (take_at p r (length p) refl) ∙ ap (take (length p)) e ∙ take_at p' r' (length p) (sym l),
  sym (drop_at p r (length p) refl) ∙ ap (drop (length p)) e ∙ drop_at p' r' (length p) (sym l),
)

module _ (key key' : ℕ) where
  -- T agrees in the lanes that a clip of n bytes shows
  abbrev pub Lanes : ℕ → Type 0
  Lanes n = SameEvenLanes (lanes_shown n) key key'

  none_shown : Lanes 0
  none_shown lane l even = absurd (omega arith)

  nothing_shown : (t : Bool) → Lanes (cond t 0 0)
  nothing_shown true = none_shown
  nothing_shown false = none_shown

  both_shown : (m n : ℕ) → Lanes (max m n) ↔ (Lanes m × Lanes n)
  both_shown m n = (
    λ same. (λ lane l even. same lane (omega arith) even, λ lane l even. same lane (omega arith) even),
    λ both. ⊎_elim
        (λ (h : m < n). let q : max m n ≡ n = omega arith in rw q both.1)
        (λ (h : n ≤ m). let q : max m n ≡ m = omega arith in rw q both.0)
        (side m n),
  )

  module _ (payload : List ℕ) where
    abbrev SamePicture : Bool → Type 0
    SamePicture t = cond t (unmasked_video (keys_of key) payload) payload ≡ cond t (unmasked_video (keys_of key') payload) payload

    abbrev SameSound : Bool → Type 0
    SameSound t = cond t (masked_audio (keys_of key) payload) payload ≡ cond t (masked_audio (keys_of key') payload) payload

    -- t: it is of data type 0. s: it is short
    picture : (t s : Bool) → ltb (length payload) 0x240 ≡ s → SamePicture t ↔ Lanes (cond t (cond s 0 (length payload)) 0)
    picture true true e =
        let short = ltb-true (length payload) 0x240 e in
        (λ _. none_shown, λ _. ShortVideoStays key payload short ∙ sym (ShortVideoStays key' payload short))
    picture true false e =
        let long = ltb-false (length payload) 0x240 e in
        Iff.trans (VideoEqualExactlyWhenBitsAgree key key' payload long) (Iff.symm (EvenLanesTellTheBits key key' (lanes_shown (length payload)) (omega arith)))
    picture false s e = (λ _. none_shown, λ _. refl)

    sound : (adx t : Bool) → SameSound (adx && t) ↔ Lanes (cond t (cond adx (length payload) 0) 0)
    sound true true = AudioEqualExactlyWhenLanesAgree key key' payload
    sound true false = (λ _. none_shown, λ _. refl)
    sound false true = (λ _. none_shown, λ _. refl)
    sound false false = (λ _. none_shown, λ _. refl)

  -- where a stream has no part of a payload
  no_picture : (t : Bool) → SamePicture [] t
  no_picture true = ShortVideoStays key [] (omega arith) ∙ sym (ShortVideoStays key' [] (omega arith))
  no_picture false = refl

  no_sound : (t : Bool) → SameSound [] t
  no_sound true = ShortAudioStays key [] (omega arith) ∙ sym (ShortAudioStays key' [] (omega arith))
  no_sound false = refl

  module _ (codec : Option ℕ) where
    abbrev by : Unmasking
    by = unmasking_of (Some key) codec

    abbrev by' : Unmasking
    by' = unmasking_of (Some key') codec

    by_kind : (kind : Kind) (data-type : ℕ) (payload : List ℕ)
        → ((clear_video by data-type (video_part kind payload) ≡ clear_video by' data-type (video_part kind payload))
        × (clear_audio by data-type (audio_part kind payload) ≡ clear_audio by' data-type (audio_part kind payload)))
        ↔ Lanes (cond (eqb data-type 0) (shown_as (is_adx codec) kind (length payload)) 0)
    by_kind Video data-type payload =
        let p = picture payload (eqb data-type 0) (ltb (length payload) 0x240) refl in
        (λ same. p.0 same.0, λ lanes. (p.1 lanes, no_sound (is_adx codec && eqb data-type 0)))
    by_kind Audio data-type payload =
        let s = sound payload (is_adx codec) (eqb data-type 0) in
        (λ same. s.0 same.1, λ lanes. (no_picture (eqb data-type 0), s.1 lanes))
    by_kind Other data-type payload =
        (λ _. nothing_shown (eqb data-type 0), λ _. (no_picture (eqb data-type 0), no_sound (is_adx codec && eqb data-type 0)))
    by_kind End data-type payload =
        (λ _. nothing_shown (eqb data-type 0), λ _. (no_picture (eqb data-type 0), no_sound (is_adx codec && eqb data-type 0)))

    module _ (container : List ℕ) (reading : Applied) where
      -- both streams of some chunks, wherever these begin
      abbrev Same : List Chunk → Type 0
      Same chunks =
          (video_stream container by chunks ≡ video_stream container by' chunks) × (audio_stream container by chunks ≡ audio_stream container by' chunks)

      abbrev Decided : ℕ → List Chunk → Type 0
      Decided c chunks = Same chunks ↔ Lanes (shown_by (is_adx codec) chunks)

      none-decided : (c : ℕ) → Decided c []
      unfolding joined shown_by
      none-decided c = (λ _. none_shown, λ _. (refl, refl))

      one-more-decided : (c : ℕ) (chunk : Chunk) (chunks : List Chunk) → chunk_at container reading c ≡ Ok (Some chunk) → Decided chunk.next chunks → Decided c (chunk ∷ chunks)
      unfolding joined shown_by
      one-more-decided c chunk chunks e rest =
          let dt = chunk.data_type in
          let v = video_part chunk.kind (payload_of container chunk) in
          let a = audio_part chunk.kind (payload_of container chunk) in
          let piece = rw (PayloadsLieWithin container reading c chunk e).1 at (by_kind chunk.kind dt (payload_of container chunk)) in
          let both = both_shown (shown_in (is_adx codec) chunk) (shown_by (is_adx codec) chunks) in (
            λ same.
                let video = split (video_piece container by chunk) (video_piece container by' chunk) _ _ (video_keeps by dt v ∙ sym (video_keeps by' dt v)) same.0 in
                let audio = split (audio_piece container by chunk) (audio_piece container by' chunk) _ _ (audio_keeps by dt a ∙ sym (audio_keeps by' dt a)) same.1 in
                both.1 (piece.0 (video.0, audio.0), rest.0 (video.1, audio.1)),
            λ lanes.
                let one = piece.1 (both.0 lanes).0 in
                let others = rest.1 (both.0 lanes).1 in
                (ap₂ ◌++◌ one.0 others.0, ap₂ ◌++◌ one.1 others.1),
          )

      pub streams-decided : (c : ℕ) → Same (walk_from container reading c).chunks ↔ Lanes (shown_by (is_adx codec) (walk_from container reading c).chunks)
      streams-decided = every_walk container reading Decided none-decided one-more-decided
