-- The promises of specs/Promises.antt under their names: payload by payload the outputs are as far apart as rules D say. Assumes nothing.
use Rattle.std.specs.Prelude.{Option, Some, None, Ok, Err}
use Rattle.std.specs.Option.{option_or}
use Prim.Native.Nat.{ℕ, ◌+◌, ◌-◌, ◌%◌, ◌≤◌, ◌<◌}
use mathlib.Core.Path.{◌≡◌, refl, sym, ap, ◌∙◌}
use mathlib.Core.Logic.{◌↔◌, ⊎_elim}
use mathlib.Core.Bool.{Bool, true, false, cond, ◌&&◌}
use mathlib.Core.List.{List, [], ◌∷◌, ◌++◌, append_assoc}
use native.Mathlib.Omega.{arith}
use lib.ListN.{length}
use lib.Seq.{ext_get_or, get_or-drop}
use lib.Bits.{bit_and, xor_self}
use lib.Dec.{ltb, leb, eqb}
use borrow.Author.Tests.{ltb-true, ltb-false, eqb-true, eqb-false}
use Rattle.laws.specs.Lists.{at}
use Rattle.laws.proofs.Side.{side}
use Rattle.laws.proofs.XorLaws.{xor_none}
use Rattle.mask.specs.Positions.{difference, video_differs, audio_differs}
use Rattle.mask.specs.Promises.{apart}
use Rattle.reading.specs.declared.Applied.{Applied}
use Rattle.reading.specs.declared.Reading.{Reading}
use Rattle.unmasking.specs.declared.Mask.TheVariants.{Clear, VideoMask, AudioMask}
use Rattle.unmasking.specs.Unmasking.{is_adx, unmasking_of}
use Rattle.chunk.specs.declared.Kind.{Kind}
use Rattle.chunk.specs.declared.Kind.TheVariants.{Video, Audio, Other, End}
use Rattle.chunk.specs.declared.Chunk.{Chunk}
use Rattle.chunk.specs.Chunks.{chunk_at, payload_of}
use Rattle.chunk.proofs.Promises.{PayloadsLieWithin}
use Rattle.chunk_mask.specs.ChunkMasks.{mask_of}
use Rattle.walk.specs.Walks.{walk_from, video_in, audio_in, size_of, video_size, audio_size}
use Rattle.walk.proofs.WalkLaws.{every_walk}
use Rattle.header.specs.declared.Header.{Header}
use Rattle.film.specs.Films.{Film, film, refused, film_of}
use Rattle.extract.specs.declared.Contents.{Contents}
use Rattle.extract.specs.Streams.{video_part, audio_part}
use Rattle.extract.specs.Extraction.{Extraction}
use Rattle.extract.specs.Promises.{SameFrom}
use Rattle.extract.proofs.StreamLaws.{video_under, audio_under, video_parted, audio_parted}
use Rattle.extract.proofs.ResultLaws.{its_walk, its_length, both_hold}
use Rattle.extract.proofs.Promises.{VideoDiffersPayloadByPayload, AudioDiffersPayloadByPayload, BytesPastTheStreamsStay}
use Rattle.key_apart.specs.PayloadsApart.{differs_in, is_masked_in, apart_in}
use Rattle.key_apart.specs.Promises.{PartAt}
use Rattle.key_apart.proofs.Promises.{Parts, payload_parts}
use Rattle.film_apart.specs.declared.Stream.{Stream}
use Rattle.film_apart.specs.declared.Stream.TheVariants.{VideoStream, AudioStream}
use Rattle.film_apart.specs.declared.WhySame.TheVariants.{Differ, OneKey, NeverCount, NotShown}
use Rattle.film_apart.specs.declared.Parting.{Parting}
use Rattle.film_apart.specs.FilmsApart.{part_in, apart_of, apart_from, film_apart}
use Rattle.film_apart.specs.Promises as promised
use Rattle.film_apart.specs.Promises.{Means, Holds, Says}
use Rattle.key.specs.CountingBits.{counting_bits}
use Rattle.key.proofs.Promises.{OneTableExactlyWhenBitsAgree, OneTableExactlyWhenOneNumber}
use Rattle.key_shown.specs.KeyBits.{shown_bits}
use Rattle.key_shown.proofs.Promises.{SameStreamsExactlyWhenBitsAgree}

-- ---- one stream, whose bytes are so far apart

-- what an answer says of so many bytes, after those passed
abbrev Told : Stream → (ℕ → ℕ) → ℕ → ℕ → Option Parting → Type 0
Told stream d passed size None = (p : ℕ) → passed ≤ p → p < passed + size → d p ≡ 0
Told stream d passed size (Some parting) = (parting.stream ≡ stream) × ((p : ℕ) → passed ≤ p → p < parting.byte → d p ≡ 0) × (d parting.byte ≡ 0 → ⊥)

size_after : (stream : Stream) (before : List Chunk) (chunk : Chunk) → size_of (part_in stream) (before ++ chunk ∷ []) ≡ size_of (part_in stream) before + part_in stream chunk.kind chunk.len
unfolding size_of
size_after stream [] chunk = omega arith
size_after stream (first ∷ before) chunk = omega (arith, size_after stream before chunk)

module _ (stream : Stream) (codec : Option ℕ) (key key' : ℕ) (container : List ℕ) (reading : Applied) (all : List Chunk) (d : ℕ → ℕ)
    (law : (before after : List Chunk) (chunk : Chunk) → all ≡ before ++ chunk ∷ after → length (payload_of container chunk) ≡ chunk.len
    → Parts (λ p. d (size_of (part_in stream) before + p)) (part_in stream chunk.kind chunk.len) (apart_of stream codec key key' chunk)) where
  -- more of the same after one chunk that has no difference
  longer : (passed part size : ℕ) → ((p : ℕ) → passed ≤ p → p < passed + part → d p ≡ 0) → (r : Option Parting) → Told stream d (passed + part) size r → Told stream d passed (part + size) r
  longer passed part size none None rest = λ p h k. ⊎_elim (λ (l : p < passed + part). none p h l) (λ (l : passed + part ≤ p). rest p l (omega arith)) (side p (passed + part))
  longer passed part size none (Some parting) (e, rest, here) =
      (e, λ p h k. ⊎_elim (λ (l : p < passed + part). none p h l) (λ (l : passed + part ≤ p). rest p l k) (side p (passed + part)), here)

  abbrev Parted : ℕ → List Chunk → Type 0
  Parted c chunks =
      (before : List Chunk) → all ≡ before ++ chunks
      → Told stream d (size_of (part_in stream) before) (size_of (part_in stream) chunks) (apart_from stream codec key key' (size_of (part_in stream) before) chunks)

  none_parted : (c : ℕ) → Parted c []
  unfolding size_of apart_from
  none_parted c before e = λ p h k. absurd (omega arith)

  module _ (c : ℕ) (chunk : Chunk) (chunks : List Chunk) (e : chunk_at container reading c ≡ Ok (Some chunk)) (rest : Parted chunk.next chunks)
      (before : List Chunk) (w : all ≡ before ++ chunk ∷ chunks) where
    abbrev part : ℕ
    part = part_in stream chunk.kind chunk.len

    abbrev passed : ℕ
    passed = size_of (part_in stream) before

    abbrev first : ℕ
    first = apart_of stream codec key key' chunk

    in_it : Parts (λ p. d (passed + p)) part first
    in_it = law before chunks chunk w (PayloadsLieWithin container reading c chunk e).1

    none_in_it : (n : ℕ) → n ≤ first → (p : ℕ) → passed ≤ p → p < passed + n → d p ≡ 0
    none_in_it n l p h k = let q : passed + (p - passed) ≡ p = omega arith in ap d (sym q) ∙ in_it.below (p - passed) (omega arith)

    after_it : Told stream d (passed + part) (size_of (part_in stream) chunks) (apart_from stream codec key key' (passed + part) chunks)
    after_it = rw (size_after stream before chunk) at (rest (before ++ chunk ∷ []) (w ∙ sym (append_assoc before (chunk ∷ []) chunks)))

    by_test : (b : Bool) → ltb first part ≡ b
        → Told stream d passed (part + size_of (part_in stream) chunks) (cond b (Some (record { stream = stream; byte = passed + first; chunk = chunk.start; offset = first })) (apart_from stream codec key key' (passed + part) chunks))
    by_test true t = (refl, none_in_it first (omega arith), in_it.here (ltb-true first part t))
    by_test false t = longer passed part (size_of (part_in stream) chunks) (none_in_it part (ltb-false first part t)) (apart_from stream codec key key' (passed + part) chunks) after_it

  one_more_parted : (c : ℕ) (chunk : Chunk) (chunks : List Chunk) → chunk_at container reading c ≡ Ok (Some chunk) → Parted chunk.next chunks → Parted c (chunk ∷ chunks)
  unfolding size_of apart_from
  one_more_parted c chunk chunks e rest before w = by_test c chunk chunks e rest before w (ltb (apart_of stream codec key key' chunk) (part_in stream chunk.kind chunk.len)) refl

  stream_told : (c : ℕ) → (walk_from container reading c).chunks ≡ all → Told stream d 0 (size_of (part_in stream) all) (apart_from stream codec key key' 0 all)
  unfolding size_of
  stream_told c e = rw e at (every_walk container reading Parted none_parted one_more_parted c [] (sym e))

-- ---- a chunk's share of each stream, by the mask that its payload has

video_mask_lem : (b : Bool) (n p difference : ℕ)
    → cond ((b && leb 0x240 n) && video_differs p) difference 0 ≡ cond (is_masked_in (cond (true && b) VideoMask Clear) n && differs_in (cond (true && b) VideoMask Clear) p) difference 0
video_mask_lem true n p difference = refl
video_mask_lem false n p difference = refl

audio_mask_lem : (a b : Bool) (n p difference : ℕ)
    → cond ((a && b) && audio_differs p) difference 0 ≡ cond (is_masked_in (cond (a && b) AudioMask Clear) n && differs_in (cond (a && b) AudioMask Clear) p) difference 0
audio_mask_lem true true n p difference = refl
audio_mask_lem true false n p difference = refl
audio_mask_lem false b n p difference = refl

module _ (codec : Option ℕ) (key key' data-type n : ℕ) (d : ℕ → ℕ) where
  video_share : (kind : Kind)
      → ((p : ℕ) → p < video_in kind n → d p ≡ cond ((eqb data-type 0 && leb 0x240 (video_in kind n)) && video_differs p) (difference key key' (p % 0x20)) 0)
      → Parts d (video_in kind n) (apart_in (mask_of codec kind data-type) key key' (video_in kind n))
  video_share Video law = payload_parts key key' (mask_of codec Video data-type) d n (λ p h. law p h ∙ video_mask_lem (eqb data-type 0) n p (difference key key' (p % 0x20)))
  video_share Audio law = payload_parts key key' (mask_of codec Audio data-type) d 0 (λ p h. absurd (omega arith))
  video_share Other law = payload_parts key key' Clear d 0 (λ p h. absurd (omega arith))
  video_share End law = payload_parts key key' Clear d 0 (λ p h. absurd (omega arith))

  audio_share : (kind : Kind)
      → ((p : ℕ) → p < audio_in kind n → d p ≡ cond ((is_adx codec && eqb data-type 0) && audio_differs p) (difference key key' (p % 0x20)) 0)
      → Parts d (audio_in kind n) (apart_in (mask_of codec kind data-type) key key' (audio_in kind n))
  audio_share Video law = payload_parts key key' (mask_of codec Video data-type) d 0 (λ p h. absurd (omega arith))
  audio_share Audio law = payload_parts key key' (mask_of codec Audio data-type) d n (λ p h. law p h ∙ audio_mask_lem (is_adx codec) (eqb data-type 0) n p (difference key key' (p % 0x20)))
  audio_share Other law = payload_parts key key' Clear d 0 (λ p h. absurd (omega arith))
  audio_share End law = payload_parts key key' Clear d 0 (λ p h. absurd (omega arith))

-- ---- two outputs of one stream

parted : (out out' : List ℕ) (byte : ℕ) → ((p : ℕ) → 0 ≤ p → p < byte → apart out out' p ≡ 0) → (apart out out' byte ≡ 0 → ⊥) → PartAt byte out out'
parted out out' byte below here = (λ p h. xor_none (at out p) (at out' p) (below p (omega arith) h), λ e. here (rw e (xor_self (at out' byte))))

not_parted : (out out' before : List ℕ) (size : ℕ) → ((p : ℕ) → 0 ≤ p → p < 0 + size → apart out out' p ≡ 0) → SameFrom size before out → SameFrom size before out' → out ≡ out'
not_parted out out' before size none same same' =
    ext_get_or 0 out out' (same.0 ∙ sym same'.0) (λ p h.
    ⊎_elim (λ (k : p < size). xor_none (at out p) (at out' p) (none p (omega arith) (omega arith)))
    (λ (k : size ≤ p).
    let q : size + (p - size) ≡ p = omega arith in
    ap (at out) (sym q) ∙ sym (get_or-drop size out (p - size) 0) ∙ ap (λ (rest : List ℕ). at rest (p - size)) (same.1 ∙ sym same'.1) ∙ get_or-drop size out' (p - size) 0
    ∙ ap (at out') q)
    (side p size))

-- ---- both streams of a film

module _ (container : List ℕ) (reading : Reading) (header : Header) (applied : Applied) (chunks : List Chunk) (f : film_of container reading ≡ film header applied chunks)
    (video audio : List ℕ) where
  -- past both streams the outputs are as they were
  past_them : (key : ℕ) (video_after audio_after : List ℕ) (contents : Contents) → Extraction container reading (Some key) video audio (Ok contents) video_after audio_after
      → SameFrom (video_size chunks) video video_after × SameFrom (audio_size chunks) audio audio_after
  past_them key video_after audio_after contents e =
      let by = unmasking_of (Some key) header.audio_codec in
      let hold = both_hold container reading header applied chunks f (Some key) video audio video_after audio_after contents e in
      let past = BytesPastTheStreamsStay container reading (Some key) video audio video_after audio_after contents e in
      let v : contents.video_size ≡ video_size chunks = sym hold.0.long ∙ its_length container reading header applied chunks f (video_under by) in
      let a : contents.audio_size ≡ audio_size chunks = sym hold.1.long ∙ its_length container reading header applied chunks f (audio_under by) in
      (rw v at past.0, rw a at past.1)

module _ (container : List ℕ) (reading : Reading) (header : Header) (applied : Applied) (chunks : List Chunk) (f : film_of container reading ≡ film header applied chunks)
    (key key' : ℕ) (video audio video_after audio_after video_after' audio_after' : List ℕ) (contents contents' : Contents)
    (e : Extraction container reading (Some key) video audio (Ok contents) video_after audio_after)
    (e' : Extraction container reading (Some key') video audio (Ok contents') video_after' audio_after') where
  abbrev codec : Option ℕ
  codec = header.audio_codec

  videos : Told VideoStream (apart video_after video_after') 0 (video_size chunks) (apart_from VideoStream codec key key' 0 chunks)
  videos =
      stream_told VideoStream codec key key' container applied chunks (apart video_after video_after')
      (λ before after chunk w len.
      video_share codec key key' chunk.data_type chunk.len (λ p. apart video_after video_after' (video_size before + p)) chunk.kind (λ p h.
      let n : length (video_part chunk.kind (payload_of container chunk)) ≡ video_in chunk.kind chunk.len = video_parted chunk.kind (payload_of container chunk) ∙ ap (video_in chunk.kind) len in
      rw n at (VideoDiffersPayloadByPayload container reading key key' video audio video_after audio_after video_after' audio_after' contents contents' header applied before after chunk p e e' (f ∙ ap (film header applied) w) (omega (arith, n)))))
      header.start (its_walk container reading header applied chunks f)

  audios : Told AudioStream (apart audio_after audio_after') 0 (audio_size chunks) (apart_from AudioStream codec key key' 0 chunks)
  audios =
      stream_told AudioStream codec key key' container applied chunks (apart audio_after audio_after')
      (λ before after chunk w len.
      audio_share codec key key' chunk.data_type chunk.len (λ p. apart audio_after audio_after' (audio_size before + p)) chunk.kind (λ p h.
      let n : length (audio_part chunk.kind (payload_of container chunk)) ≡ audio_in chunk.kind chunk.len = audio_parted chunk.kind (payload_of container chunk) ∙ ap (audio_in chunk.kind) len in
      AudioDiffersPayloadByPayload container reading key key' video audio video_after audio_after video_after' audio_after' contents contents' header applied before after chunk p e e' (f ∙ ap (film header applied) w) (omega (arith, n))))
      header.start (its_walk container reading header applied chunks f)

  abbrev past : SameFrom (video_size chunks) video video_after × SameFrom (audio_size chunks) audio audio_after
  past = past_them container reading header applied chunks f video audio key video_after audio_after contents e

  abbrev past' : SameFrom (video_size chunks) video video_after' × SameFrom (audio_size chunks) audio audio_after'
  past' = past_them container reading header applied chunks f video audio key' video_after' audio_after' contents' e'

  by_audio : video_after ≡ video_after' → (r : Option Parting) → Told AudioStream (apart audio_after audio_after') 0 (audio_size chunks) r → Means (Ok r) video_after audio_after video_after' audio_after'
  by_audio same None none = (same, not_parted audio_after audio_after' audio (audio_size chunks) none past.1 past'.1)
  by_audio same (Some parting) (s, below, here) = rw s (same, parted audio_after audio_after' parting.byte below here)

  by_video : (r other : Option Parting) → Told VideoStream (apart video_after video_after') 0 (video_size chunks) r → Told AudioStream (apart audio_after audio_after') 0 (audio_size chunks) other
      → Means (Ok (option_or r other)) video_after audio_after video_after' audio_after'
  by_video None other none told = by_audio (not_parted video_after video_after' video (video_size chunks) none past.0 past'.0) other told
  by_video (Some parting) other (s, below, here) told = rw s (parted video_after video_after' parting.byte below here)

  told_apart : Means (film_apart key key' (film_of container reading)) video_after audio_after video_after' audio_after'
  told_apart = rw f (by_video (apart_from VideoStream codec key key' 0 chunks) (apart_from AudioStream codec key key' 0 chunks) videos audios)

pub StreamsPartThere : promised.StreamsPartThere
StreamsPartThere container reading key key' video audio video_after audio_after video_after' audio_after' contents contents' e e' = by_film (film_of container reading) refl
  where
    by_film : (f : Film) → film_of container reading ≡ f → Means (film_apart key key' (film_of container reading)) video_after audio_after video_after' audio_after'
    by_film (film header applied chunks) f = told_apart container reading header applied chunks f key key' video audio video_after audio_after video_after' audio_after' contents contents' e e'
    by_film (refused refusal) f =
        let q : Ok contents ≡ Err refusal = rw f at e.0 in
        let z : ◌≡◌ {A = ℕ} 0 1 = cc in
        absurd (omega arith)

-- ---- the chunk that is named

module _ (codec : Option ℕ) (key key' : ℕ) (stream : Stream) (byte start offset : ℕ) where
  module _ (here : Stream) where
    named_from : (before chunks : List Chunk) → apart_from here codec key key' (size_of (part_in here) before) chunks ≡ Some (record { stream = stream; byte = byte; chunk = start; offset = offset }) → Holds (before ++ chunks) stream byte start offset
    unfolding apart_from
    named_from before [] e = let z : ◌≡◌ {A = ℕ} 0 1 = cc in absurd (omega arith)
    named_from before (chunk ∷ chunks) e =
        by_test (ltb (apart_of here codec key key' chunk) (part_in here chunk.kind chunk.len)) refl e
        (λ q. rw (append_assoc before (chunk ∷ []) chunks) at (named_from (before ++ chunk ∷ []) chunks (rw (size_after here before chunk) q)))
      where
        by_test : (b : Bool) → ltb (apart_of here codec key key' chunk) (part_in here chunk.kind chunk.len) ≡ b
            → cond {A = Option Parting} b (Some (record { stream = here; byte = size_of (part_in here) before + apart_of here codec key key' chunk; chunk = chunk.start; offset = apart_of here codec key key' chunk })) (apart_from here codec key key' (size_of (part_in here) before + part_in here chunk.kind chunk.len) chunks)
            ≡ Some (record { stream = stream; byte = byte; chunk = start; offset = offset })
            → (apart_from here codec key key' (size_of (part_in here) before + part_in here chunk.kind chunk.len) chunks ≡ Some (record { stream = stream; byte = byte; chunk = start; offset = offset }) → Holds (before ++ chunk ∷ chunks) stream byte start offset)
            → Holds (before ++ chunk ∷ chunks) stream byte start offset
        by_test true t q later =
            let same : ◌≡◌ {A = Parting} (record { stream = here; byte = size_of (part_in here) before + apart_of here codec key key' chunk; chunk = chunk.start; offset = apart_of here codec key key' chunk })
            (record { stream = stream; byte = byte; chunk = start; offset = offset }) = cc in
            let s : here ≡ stream = ap (λ (p : Parting). p.stream) same in
            let b : size_of (part_in here) before + apart_of here codec key key' chunk ≡ byte = ap (λ (p : Parting). p.byte) same in
            let c : chunk.start ≡ start = ap (λ (p : Parting). p.chunk) same in
            let o : apart_of here codec key key' chunk ≡ offset = ap (λ (p : Parting). p.offset) same in
            let l = ltb-true (apart_of here codec key key' chunk) (part_in here chunk.kind chunk.len) t in
            rw (← s) (record { before = before; chunk = chunk; after = chunks; split = refl; starts = c; there = rw (← o) b; within = rw (← o) l })
        by_test false t q later = later q

  by_stream : (chunks : List Chunk) (r : Option Parting) → apart_from VideoStream codec key key' 0 chunks ≡ r → option_or r (apart_from AudioStream codec key key' 0 chunks) ≡ Some (record { stream = stream; byte = byte; chunk = start; offset = offset })
      → Holds chunks stream byte start offset
  unfolding size_of
  by_stream chunks None v e = named_from AudioStream [] chunks e
  by_stream chunks (Some parting) v e = named_from VideoStream [] chunks (v ∙ e)

pub PartingNamesTheChunk : promised.PartingNamesTheChunk
PartingNamesTheChunk codec key key' chunks stream byte start offset e = by_stream codec key key' stream byte start offset chunks (apart_from VideoStream codec key key' 0 chunks) refl e

-- ---- why they are the same

module _ (key key' bits : ℕ) (same : Type 0) (streams : (bit_and key bits ≡ bit_and key' bits) ↔ same) where
  by_counting : (counting : Bool) → eqb (counting_bits key) (counting_bits key') ≡ counting → same → Says (cond counting NeverCount NotShown) key key' same
  by_counting true c s = ((OneTableExactlyWhenBitsAgree key key').0 ((OneTableExactlyWhenOneNumber key key').1 (eqb-true (counting_bits key) (counting_bits key') c)), s)
  by_counting false c s = (
    λ agree. eqb-false (counting_bits key) (counting_bits key') c ((OneTableExactlyWhenOneNumber key key').0 ((OneTableExactlyWhenBitsAgree key key').1 agree)),
    s,
  )

  by_shown : (shown : Bool) → eqb (bit_and key bits) (bit_and key' bits) ≡ shown
      → Says (cond shown (cond (eqb (counting_bits key) (counting_bits key')) NeverCount NotShown) Differ) key key' same
  by_shown true s = by_counting (eqb (counting_bits key) (counting_bits key')) refl (streams.0 (eqb-true (bit_and key bits) (bit_and key' bits) s))
  by_shown false s = λ given. eqb-false (bit_and key bits) (bit_and key' bits) s (streams.1 given)

  by_key : (one : Bool) → eqb key key' ≡ one
      → Says (cond one OneKey (cond (eqb (bit_and key bits) (bit_and key' bits)) (cond (eqb (counting_bits key) (counting_bits key')) NeverCount NotShown) Differ)) key key' same
  by_key true o = let k = eqb-true key key' o in (k, streams.0 (ap (λ (n : ℕ). bit_and n bits) k))
  by_key false o = by_shown (eqb (bit_and key bits) (bit_and key' bits)) refl

pub ReasonsAreSo : promised.ReasonsAreSo
ReasonsAreSo container reading key key' video audio video_after audio_after video_after' audio_after' contents contents' e e' =
    by_key key key' (shown_bits (film_of container reading)) ((video_after ≡ video_after') × (audio_after ≡ audio_after'))
    (SameStreamsExactlyWhenBitsAgree container reading key key' video audio video_after audio_after video_after' audio_after' contents contents' e e')
    (eqb key key') refl
