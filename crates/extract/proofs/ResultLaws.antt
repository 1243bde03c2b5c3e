-- What a result that is a film says of both outputs at exit: each has its stream at the front, each payload's piece at its place there, and is as it was
-- past it. Assumes nothing.
use Rattle.std.specs.Prelude.{Option, Ok}
use Prim.Native.Nat.{ℕ, ◌+◌, ◌-◌, ◌≤◌, ◌<◌}
use mathlib.Core.Path.{◌≡◌, refl, sym, ap, ◌∙◌}
use mathlib.Core.List.{List, ◌∷◌, ◌++◌}
use mathlib.Core.Bool.{◌||◌}
use native.Mathlib.Omega.{arith}
use lib.ListN.{length, drop, length-append, get_or-append}
use lib.Seq.{sets, sets-eq, length-sets, drop_at}
use lib.Dec.{ltb}
use Rattle.laws.specs.Lists.{at}
use Rattle.laws.proofs.SpliceLaws.{at_left, at_right}
use Rattle.refusal.specs.declared.Cause.TheVariants.{ShortOutput}
use Rattle.reading.specs.declared.Reading.{Reading}
use Rattle.reading.specs.declared.Applied.{Applied}
use Rattle.chunk.specs.declared.Chunk.{Chunk}
use Rattle.chunk.specs.Chunks.{payload_of}
use Rattle.walk.specs.Walks.{walk_from, joined, size_of, video_size, audio_size}
use Rattle.unmasking.specs.declared.Unmasking.{Unmasking}
use Rattle.unmasking.specs.Unmasking.{unmasking_of}
use Rattle.header.specs.declared.Header.{Header}
use Rattle.film.specs.Films.{film, film_of, survey_of}
use Rattle.extract.specs.declared.Contents.{Contents}
use Rattle.extract.specs.Streams.{video_part, audio_part, video_piece, audio_piece}
use Rattle.extract.specs.Extraction.{contents_of, Extraction}
use Rattle.extract.specs.Promises.{SameFrom}
use Rattle.extract.proofs.StreamLaws.{Stream, piece_of, video_under, audio_under, joined_append, front_length, stream_length}
use Rattle.extract.proofs.AnswerLaws.{both_long, passed, its_film}

-- bytes put at the front
front : (out bytes : List ℕ) → length bytes ≤ length out → sets out 0 bytes ≡ bytes ++ drop (length bytes) out
front out bytes room =
    let n : 0 + length bytes ≡ length bytes = omega arith in
    sets-eq bytes out 0 (omega arith) ∙ ap (λ (k : ℕ). bytes ++ drop k out) n

-- the stream of these chunks, of so many bytes, stands at the front of an output
pub record Holds (stream : Stream) (container : List ℕ) (chunks : List Chunk) (size : ℕ) (out out' : List ℕ) : Type 0 where
  pub long : length (joined (piece_of stream container) chunks) ≡ size
  pub room : size ≤ length out
  pub bytes : out' ≡ sets out 0 (joined (piece_of stream container) chunks)

module _ (stream : Stream) (container : List ℕ) (size : ℕ) (out out' : List ℕ) where
  pub stays_past : (chunks : List Chunk) → Holds stream container chunks size out out' → SameFrom size out out'
  stays_past chunks h =
      let whole = joined (piece_of stream container) chunks in (
        ap length h.bytes ∙ length-sets out 0 whole,
        rw (h.bytes, front out whole (omega (arith, h.long, h.room)))
            (drop_at whole (drop (length whole) out) size h.long ∙ ap (λ (k : ℕ). drop k out) h.long),
      )

  -- a payload's piece stands where the payloads before it end
  pub piece_at_lem : (reading : Applied) (c : ℕ) (before after : List Chunk) (chunk : Chunk) → (walk_from container reading c).chunks ≡ before ++ chunk ∷ after
      → Holds stream container (before ++ chunk ∷ after) size out out' → (p : ℕ) → p < length (stream.part chunk.kind (payload_of container chunk))
      → at out' (size_of stream.share before + p) ≡ at (piece_of stream container chunk) p
  unfolding joined
  piece_at_lem reading c before after chunk walked h p l =
      let share = size_of stream.share before in
      let first = joined (piece_of stream container) before in
      let piece = piece_of stream container chunk in
      let rest = joined (piece_of stream container) after in
      let n : length first ≡ share = front_length stream container reading c before (chunk ∷ after) walked in
      let k : length piece ≡ length (stream.part chunk.kind (payload_of container chunk)) = stream.keeps chunk.data_type (stream.part chunk.kind (payload_of container chunk)) in
      let whole = joined (piece_of stream container) (before ++ chunk ∷ after) in
      let split : whole ≡ first ++ (piece ++ rest) = joined_append (piece_of stream container) before (chunk ∷ after) in
      let m : length whole ≡ share + (length piece + length rest) = rw split (simp length-append (omega arith)) in
      let q : share + p - share ≡ p = omega arith in
      ap (λ (o : List ℕ). at o (share + p)) (h.bytes ∙ front out whole (omega (arith, h.long, h.room)))
      ∙ at_left whole (drop (length whole) out) (length whole) (share + p) refl (omega arith)
      ∙ ap (λ (o : List ℕ). at o (share + p)) split
      ∙ at_right first (piece ++ rest) share (share + p) n (omega arith) ∙ ap (at (piece ++ rest)) q
      ∙ get_or-append piece rest 0 p (omega arith)

module _ (container : List ℕ) (reading : Reading) (header : Header) (applied : Applied) (chunks : List Chunk)
    (f : film_of container reading ≡ film header applied chunks) where
  -- the chunks of a film are those of the walk from where its header says
  pub its_walk : (walk_from container applied header.start).chunks ≡ chunks
  its_walk =
      let s : film header applied chunks ≡ film header applied (walk_from container applied header.start).chunks =
      sym f ∙ its_film container reading header applied (length chunks) (video_size chunks) (audio_size chunks) (ap survey_of f) in
      cc

  pub its_length : (stream : Stream) → length (joined (piece_of stream container) chunks) ≡ size_of stream.share chunks
  its_length stream = rw its_walk at (stream_length stream container applied header.start)

  pub both_hold : (key : Option ℕ) (video audio video_after audio_after : List ℕ) (contents : Contents)
      → Extraction container reading key video audio (Ok contents) video_after audio_after
      → Holds (video_under (unmasking_of key header.audio_codec)) container chunks contents.video_size video video_after
      × Holds (audio_under (unmasking_of key header.audio_codec)) container chunks contents.audio_size audio audio_after
  both_hold key video audio video_after audio_after contents e =
      let seen = video_size chunks in
      let heard = audio_size chunks in
      let by = unmasking_of key header.audio_codec in
      let p = passed (ltb (length video) seen || ltb (length audio) heard) (record { cause = ShortOutput seen heard; place = 0 }) (contents_of header seen heard) contents (rw f at e.0) in
      let long = both_long (length video) seen (length audio) heard p.0 in
      let v : seen ≡ contents.video_size = ap (λ (held : Contents). held.video_size) p.1 in
      let a : heard ≡ contents.audio_size = ap (λ (held : Contents). held.audio_size) p.1 in (
        record { long = its_length (video_under by) ∙ v; room = omega (arith, v, long.0); bytes = rw f at e.1 },
        record { long = its_length (audio_under by) ∙ a; room = omega (arith, a, long.1); bytes = rw f at e.2 },
      )

-- both outputs in a payload: what its chunk gives
module _ (container : List ℕ) (reading : Reading) (header : Header) (applied : Applied) (before after : List Chunk) (chunk : Chunk)
    (f : film_of container reading ≡ film header applied (before ++ chunk ∷ after))
    (key : Option ℕ) (video audio video_after audio_after : List ℕ) (contents : Contents) (e : Extraction container reading key video audio (Ok contents) video_after audio_after)
    (p : ℕ) where
  abbrev by : Unmasking
  by = unmasking_of key header.audio_codec

  pub video_at : p < length (video_part chunk.kind (payload_of container chunk)) → at video_after (video_size before + p) ≡ at (video_piece container by chunk) p
  video_at =
      piece_at_lem (video_under by) container contents.video_size video video_after applied header.start before after chunk
      (its_walk container reading header applied (before ++ chunk ∷ after) f)
      (both_hold container reading header applied (before ++ chunk ∷ after) f key video audio video_after audio_after contents e).0 p

  pub audio_at_lem : p < length (audio_part chunk.kind (payload_of container chunk)) → at audio_after (audio_size before + p) ≡ at (audio_piece container by chunk) p
  audio_at_lem =
      piece_at_lem (audio_under by) container contents.audio_size audio audio_after applied header.start before after chunk
      (its_walk container reading header applied (before ++ chunk ∷ after) f)
      (both_hold container reading header applied (before ++ chunk ∷ after) f key video audio video_after audio_after contents e).1 p
