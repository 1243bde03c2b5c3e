-- The promises of specs/Promises.antt, each under its name. The answer comes from the survey and both lengths alone; a stream takes the key only through
-- its tables, one payload at a time. Assumes nothing.
use Rattle.std.specs.Prelude.{Option, Some, Result, Ok, Err}
use Rattle.refusal.specs.declared.Refusal.{Refusal}
use Prim.Native.Nat.{ℕ, ◌%◌, ◌<◌}
use mathlib.Core.Path.{◌≡◌, refl, sym, ap, ap₂, ◌∙◌}
use mathlib.Core.List.{List, map}
use mathlib.Core.Bool.{Bool, true, false, cond, ◌&&◌, ◌||◌}
use native.Mathlib.Omega.{arith}
use lib.ListN.{length}
use lib.Seq.{sets}
use lib.Bits.{bit_xor, xor_self}
use lib.Dec.{leb, ltb, eqb}
use borrow.Author.Tests.{leb-true, leb-false, le-ltb}
use Rattle.laws.specs.Lists.{at}
use Rattle.laws.proofs.OneAnswer.{no_second_answer}
use Rattle.reading.specs.declared.AudioChoice.TheVariants.{NotChosen, Chosen}
use Rattle.key.specs.KeyTable.{keys_of}
use Rattle.key.specs.CountingBits.{AgreeWhereItCounts}
use Rattle.key.proofs.KeyBits.{same_keys}
use Rattle.mask.specs.Video.{unmasked_video}
use Rattle.mask.specs.Audio.{masked_audio}
use Rattle.mask.specs.Positions.{difference, video_differs, audio_differs}
use Rattle.mask.specs.Promises.{apart}
use Rattle.mask.proofs.Promises.{ShortVideoStays, VideoDiffersByD, AudioDiffersByD}
use Rattle.refusal.specs.declared.Cause.TheVariants.{ShortOutput}
use Rattle.chunk.specs.Chunks.{payload_of}
use Rattle.chunk.specs.Channels.{silenced}
use Rattle.extract.specs.declared.Contents.{Contents}
use Rattle.walk.specs.Walks.{walk_from, video_size, audio_size}
use Rattle.unmasking.specs.declared.Unmasking.{Unmasking}
use Rattle.unmasking.specs.Unmasking.{is_adx, unmasking_of}
use Rattle.film.specs.Films.{Film, film, refused, film_of, survey_of}
use Rattle.film.specs.Promises.{with_audio}
use Rattle.film.proofs.FilmLaws.{surveyed_film}
use Rattle.film.proofs.Promises.{OneChannelOfAFilm, NoAudioOfAFilm}
use Rattle.extract.specs.Streams.{video_part, audio_part, video_stream, audio_stream, on_channel}
use Rattle.extract.specs.Extraction.{contents_of, extracted_in, left_by, video_of, audio_of}
use Rattle.extract.specs.Promises as promised
use Rattle.extract.specs.Promises.{SameFrom, without_audio}
use Rattle.extract.proofs.StreamLaws.{video_under, audio_under, stream_length}
use Rattle.extract.proofs.ChannelLaws.{video_stays, audio_is_its_pieces, no_audio, video_size_stays, no_audio_size, sum_as, all_channelled, channels_sum}
use Rattle.extract.proofs.AnswerLaws.{both_long, passed, its_film, its_sizes, sizes_within}
use Rattle.extract.proofs.ResultLaws.{stays_past, both_hold, video_at, audio_at_lem}

pub NoKeyChangesTheAnswer : promised.NoKeyChangesTheAnswer
NoKeyChangesTheAnswer container reading key key' video audio video' audio' r r' video_after audio_after video_after' audio_after' v a e e' =
    e.0 ∙ ap₂ (λ (m n : ℕ). extracted_in m n (survey_of (film_of container reading))) v a ∙ sym e'.0

pub RefusalsLeaveBothOutputs : promised.RefusalsLeaveBothOutputs
RefusalsLeaveBothOutputs container reading key video audio video_after audio_after refusal e = (e.1, e.2)

pub SizesAreTheStreams : promised.SizesAreTheStreams
SizesAreTheStreams container reading key header applied count video audio e =
    let by = unmasking_of key header.audio_codec in
    let sizes = its_sizes container reading header applied count video audio e in
    rw (its_film container reading header applied count video audio e)
    (stream_length (video_under by) container applied header.start ∙ sizes.0, stream_length (audio_under by) container applied header.start ∙ sizes.1)

pub SizesFitTheContainer : promised.SizesFitTheContainer
SizesFitTheContainer container reading header applied count video audio e = sizes_within container reading header applied count video audio e

pub OutputsMayBeSizedByTheFile : promised.OutputsMayBeSizedByTheFile
OutputsMayBeSizedByTheFile container reading key video_room audio_room video_after audio_after r header applied count video audio v a x e =
    let fit = sizes_within container reading header applied count video audio e in
    x.0 ∙ rw (e, le-ltb (length video_room) video (omega arith), le-ltb (length audio_room) audio (omega arith))

pub BytesPastTheStreamsStay : promised.BytesPastTheStreamsStay
BytesPastTheStreamsStay container reading key video audio video_after audio_after contents e = by_film (film_of container reading) refl
  where
    by_film : (f : Film) → film_of container reading ≡ f → SameFrom contents.video_size video video_after × SameFrom contents.audio_size audio audio_after
    by_film (film header applied chunks) f =
        let by = unmasking_of key header.audio_codec in
        let hold = both_hold container reading header applied chunks f key video audio video_after audio_after contents e in (
          stays_past (video_under by) container contents.video_size video video_after chunks hold.0,
          stays_past (audio_under by) container contents.audio_size audio audio_after chunks hold.1,
        )
    by_film (refused refusal) f =
        let q : Ok contents ≡ Err refusal = rw f at e.0 in
        let z : ◌≡◌ {A = ℕ} 0 1 = cc in
        absurd (omega arith)

-- ---- keys that agree where it counts

module _ (key key' : ℕ) (a : AgreeWhereItCounts key key') where
  same_unmasking : (codec : Option ℕ) → unmasking_of (Some key) codec ≡ unmasking_of (Some key') codec
  same_unmasking codec = rw (same_keys key key' a)

  one_film : (container : List ℕ) (f : Film) → (video_of container (Some key) f ≡ video_of container (Some key') f) × (audio_of container (Some key) f ≡ audio_of container (Some key') f)
  one_film container (film header applied chunks) = (
    ap (λ (by : Unmasking). video_stream container by chunks) (same_unmasking header.audio_codec),
    ap (λ (by : Unmasking). audio_stream container by chunks) (same_unmasking header.audio_codec),
  )
  one_film container (refused refusal) = (refl, refl)

pub OneFilmWhereBitsAgree : promised.OneFilmWhereBitsAgree
OneFilmWhereBitsAgree container reading key key' video audio r r' video_after audio_after video_after' audio_after' a e e' =
    let one = one_film key key' a container (film_of container reading) in
    let q = no_second_answer e.0 e'.0 in
    (q, (rw (q, one.0) at e.1) ∙ sym e'.1, (rw (q, one.1) at e.2) ∙ sym e'.2)

-- ---- payload by payload

-- a payload that no key changes is nowhere apart from itself
unchanged : (answer answer' payload : List ℕ) (p : ℕ) → answer ≡ payload → answer' ≡ payload → apart answer answer' p ≡ 0
unchanged answer answer' payload p e e' = rw (e, e') (xor_self (at payload p))

module _ (key key' : ℕ) (payload : List ℕ) (p : ℕ) (h : p < length payload) where
  -- t: it is masked. s: it is long enough
  video_by_lem : (t s : Bool) → leb 0x240 (length payload) ≡ s
      → apart (cond t (unmasked_video (keys_of key) payload) payload) (cond t (unmasked_video (keys_of key') payload) payload) p
      ≡ cond ((t && s) && video_differs p) (difference key key' (p % 0x20)) 0
  video_by_lem true true e = VideoDiffersByD key key' payload (leb-true 0x240 (length payload) e) p h
  video_by_lem true false e =
      unchanged (unmasked_video (keys_of key) payload) (unmasked_video (keys_of key') payload) payload p
      (ShortVideoStays key payload (leb-false 0x240 (length payload) e)) (ShortVideoStays key' payload (leb-false 0x240 (length payload) e))
  video_by_lem false s e = xor_self (at payload p)

  audio_by_lem : (t : Bool)
      → apart (cond t (masked_audio (keys_of key) payload) payload) (cond t (masked_audio (keys_of key') payload) payload) p
      ≡ cond (t && audio_differs p) (difference key key' (p % 0x20)) 0
  audio_by_lem true = AudioDiffersByD key key' payload p h
  audio_by_lem false = xor_self (at payload p)

pub VideoDiffersPayloadByPayload : promised.VideoDiffersPayloadByPayload
VideoDiffersPayloadByPayload container reading key key' video audio video_after audio_after video_after' audio_after' contents contents' header applied before after chunk p e e' f h =
    let payload = video_part chunk.kind (payload_of container chunk) in
    ap₂ bit_xor (video_at container reading header applied before after chunk f (Some key) video audio video_after audio_after contents e p h)
    (video_at container reading header applied before after chunk f (Some key') video audio video_after' audio_after' contents' e' p h)
    ∙ video_by_lem key key' payload p h (eqb chunk.data_type 0) (leb 0x240 (length payload)) refl

pub AudioDiffersPayloadByPayload : promised.AudioDiffersPayloadByPayload
AudioDiffersPayloadByPayload container reading key key' video audio video_after audio_after video_after' audio_after' contents contents' header applied before after chunk p e e' f h =
    ap₂ bit_xor (audio_at_lem container reading header applied before after chunk f (Some key) video audio video_after audio_after contents e p h)
    (audio_at_lem container reading header applied before after chunk f (Some key') video audio video_after' audio_after' contents' e' p h)
    ∙ audio_by_lem key key' (audio_part chunk.kind (payload_of container chunk)) p h (is_adx header.audio_codec && eqb chunk.data_type 0)

-- ---- one channel

pub OneChannelIsItsPieces : promised.OneChannelIsItsPieces
OneChannelIsItsPieces container reading key channel header applied chunks e =
    let by = unmasking_of key header.audio_codec in
    let one = OneChannelOfAFilm container reading channel header applied chunks e in
    (ap (video_of container key) one ∙ video_stays container by (λ n. eqb n channel) chunks, ap (audio_of container key) one ∙ audio_is_its_pieces container by channel chunks)

pub ChannelSizesSumToAll : promised.ChannelSizesSumToAll
ChannelSizesSumToAll container reading key header applied chunks bytes e =
    let by = unmasking_of key header.audio_codec in
    let walked : film_of container (with_audio Chosen reading) ≡ film header applied (walk_from container applied header.start).chunks =
    surveyed_film container (with_audio Chosen reading) header applied _ _ _ (ap survey_of e) in
    let all : (walk_from container applied header.start).chunks ≡ chunks = cc in
    sum_as _ (λ channel. length (audio_stream container by (on_channel channel chunks))) (λ channel. ap length (OneChannelIsItsPieces container reading key channel header applied chunks e).1) 256
    ∙ channels_sum container by chunks (rw all at (all_channelled container applied bytes header.start)) ∙ sym (ap (λ (f : Film). length (audio_of container key f)) e)

-- ---- no audio

pub NoAudioIsTheVideo : promised.NoAudioIsTheVideo
NoAudioIsTheVideo container reading choice key video audio video_after audio_after contents audio' video_after' audio_after' r e e' = by_film (film_of container (with_audio choice reading)) refl
  where
    by_film : (f : Film) → film_of container (with_audio choice reading) ≡ f → (r ≡ Ok (without_audio contents)) × (video_after' ≡ video_after) × (audio_after' ≡ audio')
    by_film (film header applied chunks) f =
        let by = unmasking_of key header.audio_codec in
        let seen = video_size chunks in
        let heard = audio_size chunks in
        let none = NoAudioOfAFilm container reading choice header applied chunks f in
        let p = passed (ltb (length video) seen || ltb (length audio) heard) (record { cause = ShortOutput seen heard; place = 0 }) (contents_of header seen heard) contents (rw f at e.0) in
        let long = both_long (length video) seen (length audio) heard p.0 in
        let size : seen ≡ contents.video_size = ap (λ (held : Contents). held.video_size) p.1 in
        let answer : r ≡ Ok (contents_of header seen 0) =
        e'.0 ∙ ap (λ (g : Film). extracted_in (length video) (length audio') (survey_of g)) none
        ∙ rw (video_size_stays (λ n. false) chunks, no_audio_size chunks, le-ltb (length video) seen long.0, le-ltb (length audio') 0 (omega arith)) in
        let same : contents_of header seen 0 ≡ without_audio contents = ap without_audio p.1 in (
          answer ∙ ap Ok same,
          e'.1 ∙ ap₂ (λ (a : Result Contents Refusal) (g : Film). left_by a video (video_of container key g)) answer none ∙ ap (sets video 0) (video_stays container by (λ n. false) chunks)
              ∙ sym (rw f at e.1),
          e'.2 ∙ ap₂ (λ (a : Result Contents Refusal) (g : Film). left_by a audio' (audio_of container key g)) answer none ∙ ap (sets audio' 0) (no_audio container by chunks),
        )
    by_film (refused refusal) f =
        let q : Ok contents ≡ Err refusal = rw f at e.0 in
        let z : ◌≡◌ {A = ℕ} 0 1 = cc in
        absurd (omega arith)
