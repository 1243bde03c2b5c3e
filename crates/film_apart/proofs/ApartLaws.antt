-- The first byte of a stream that differs: what is found from here on, after so many bytes, is what is found of the whole. Assumes nothing.
use Rattle.std.specs.Prelude.{Option, Some, None, Ok, Err}
use Prim.Native.Nat.{ℕ, ◌+◌, ◌≤◌, ◌<◌}
use mathlib.Core.Path.{◌≡◌, refl, sym, ◌∙◌}
use mathlib.Core.List.{List}
use native.Mathlib.Omega.{arith}
use lib.ListN.{length}
use borrow.Author.Tests.{lt-ltb, le-ltb}
use Rattle.refusal.specs.declared.Refusal.{Refusal}
use Rattle.reading.specs.declared.Applied.{Applied}
use Rattle.reading.specs.declared.Reading.{Reading}
use Rattle.unmasking.specs.declared.Mask.{Mask}
use Rattle.chunk.specs.declared.Chunk.{Chunk}
use Rattle.chunk.specs.Chunks.{chunk_at}
use Rattle.chunk_mask.specs.ChunkMasks.{mask_of}
use Rattle.walk.specs.Walks.{walk_from, size_of}
use Rattle.walk.proofs.WalkLaws.{walk_over, walk_found, walk_refused, sizes_fit}
use Rattle.key_apart.specs.PayloadsApart.{apart_in}
use Rattle.header.specs.declared.Header.{Header}
use Rattle.film.specs.Films.{survey_of, film_of}
use Rattle.film.proofs.FilmLaws.{surveyed_film, surveyed_refusal}
use Rattle.film_apart.specs.declared.Stream.{Stream}
use Rattle.film_apart.specs.declared.Stream.TheVariants.{VideoStream, AudioStream}
use Rattle.film_apart.specs.declared.Parting.{Parting}
use Rattle.film_apart.specs.FilmsApart.{part_in, apart_from, chunks_apart, film_apart}

-- the stream is no longer than the container
stream_fits : (stream : Stream) (container : List ℕ) (reading : Applied) (start : ℕ) → size_of (part_in stream) (walk_from container reading start).chunks ≤ length container
stream_fits VideoStream container reading start = omega (arith, sizes_fit container reading start)
stream_fits AudioStream container reading start = omega (arith, sizes_fit container reading start)

-- so many bytes of the stream were passed, none of which differs
pub record Passing (stream : Stream) (codec : Option ℕ) (key key' : ℕ) (container : List ℕ) (reading : Applied) (start c passed : ℕ) : Type 0 where
  pub whole : apart_from stream codec key key' passed (walk_from container reading c).chunks ≡ apart_from stream codec key key' 0 (walk_from container reading start).chunks
  pub sized : passed + size_of (part_in stream) (walk_from container reading c).chunks ≤ length container

module _ (stream : Stream) (codec : Option ℕ) (key key' : ℕ) (container : List ℕ) (reading : Applied) (start : ℕ) where
  pub passing_starts : Passing stream codec key key' container reading start start 0
  passing_starts = record { whole = refl; sized = omega (arith, stream_fits stream container reading start) }

  module _ (c passed : ℕ) (so_far : Passing stream codec key key' container reading start c passed) where
    pub passing_over : chunk_at container reading c ≡ Ok None → None ≡ apart_from stream codec key key' 0 (walk_from container reading start).chunks
    unfolding apart_from
    passing_over e =
        let z : apart_from stream codec key key' passed (walk_from container reading c).chunks ≡ None = rw (walk_over container reading c e) in
        sym z ∙ so_far.whole

    pub passing_refused : (refusal : Refusal) → chunk_at container reading c ≡ Err refusal → None ≡ apart_from stream codec key key' 0 (walk_from container reading start).chunks
    unfolding apart_from
    passing_refused refusal e =
        let z : apart_from stream codec key key' passed (walk_from container reading c).chunks ≡ None = rw (walk_refused container reading c refusal e) in
        sym z ∙ so_far.whole

    module _ (chunk : Chunk) (e : chunk_at container reading c ≡ Ok (Some chunk)) (part : ℕ) (p : part ≡ part_in stream chunk.kind chunk.len) where
      pub part-fits : passed + part ≤ length container
      unfolding size_of
      part-fits =
          let n : size_of (part_in stream) (walk_from container reading c).chunks ≡ part_in stream chunk.kind chunk.len + size_of (part_in stream) (walk_from container reading chunk.next).chunks =
          rw (walk_found container reading c chunk e) in
          omega (arith, n, p, so_far.sized)

      module _ (mask : Mask) (m : mask ≡ mask_of codec chunk.kind chunk.data_type) (first : ℕ) (f : first ≡ apart_in mask key key' part) where
        pub passing_found : first < part → Some (record { stream = stream; byte = passed + first; chunk = chunk.start; offset = first }) ≡ apart_from stream codec key key' 0 (walk_from container reading start).chunks
        unfolding apart_from
        passing_found l =
            let z : apart_from stream codec key key' passed (walk_from container reading c).chunks ≡ Some (record { stream = stream; byte = passed + first; chunk = chunk.start; offset = first }) =
            rw (walk_found container reading c chunk e, ← m, ← p, ← f, lt-ltb first part l) in
            sym z ∙ so_far.whole

        pub passing-next : part ≤ first → Passing stream codec key key' container reading start chunk.next (passed + part)
        unfolding apart_from size_of
        passing-next l =
            let z : apart_from stream codec key key' passed (walk_from container reading c).chunks ≡ apart_from stream codec key key' (passed + part) (walk_from container reading chunk.next).chunks =
            rw (walk_found container reading c chunk e, ← m, ← p, ← f, le-ltb first part l) in
            let n : size_of (part_in stream) (walk_from container reading c).chunks ≡ part + size_of (part_in stream) (walk_from container reading chunk.next).chunks =
            rw (walk_found container reading c chunk e, ← p) in
            record { whole = sym z ∙ so_far.whole; sized = omega (arith, n, so_far.sized) }

-- ---- each answer on a film, from its survey

module _ (container : List ℕ) (reading : Reading) (key key' : ℕ) where
  pub film_refused : (refusal : Refusal) → survey_of (film_of container reading) ≡ Err refusal → Err refusal ≡ film_apart key key' (film_of container reading)
  film_refused refusal s = rw (surveyed_refusal container reading refusal s)

  pub film_known : (header : Header) (applied : Applied) (count video audio : ℕ) → survey_of (film_of container reading) ≡ Ok (record { header = header; reading = applied; count = count; video = video; audio = audio })
      → (r : Option Parting) → r ≡ chunks_apart header.audio_codec key key' (walk_from container applied header.start).chunks → Ok r ≡ film_apart key key' (film_of container reading)
  film_known header applied count video audio s r e = rw (surveyed_film container reading header applied count video audio s, e)
