-- A loop over the chunks that stops at the first rule that is broken: what the chunks from here on break is what all of them break. Assumes nothing.
use Rattle.std.specs.Prelude.{Some, None, Ok, Err}
use Prim.Native.Nat.{ℕ, ◌+◌, ◌≤◌}
use mathlib.Core.Path.{◌≡◌, sym, ap}
use mathlib.Core.List.{List}
use native.Mathlib.Omega.{arith}
use lib.ListN.{length, take, drop}
use borrow.Author.Tests.{eq-eqb, ne_eqb}
use Rattle.word.specs.Numbers.{be32}
use Rattle.refusal.specs.declared.Refusal.{Refusal}
use Rattle.reading.specs.declared.Applied.{Applied}
use Rattle.chunk.specs.declared.Chunk.{Chunk}
use Rattle.chunk.specs.Chunks.{chunk_at}
use Rattle.chunk.proofs.OpeningLaws.{same_be16, same_be32, same_letters}
use Rattle.walk.specs.Walks.{Walk, walk_from}
use Rattle.walk.proofs.WalkLaws.{walk_over, walk_found, walk_refused}
use Rattle.header.specs.declared.Header.{Header}
use Rattle.film.specs.Films.{film_of, survey_of}
use Rattle.film.proofs.FilmLaws.{surveyed_film, surveyed_refusal}
use Rattle.profile.specs.declared.Streams.{Streams}
use Rattle.profile.specs.declared.Verdict.{Verdict}
use Rattle.profile.specs.Streams.{stream_of, after_kind, first_of}
use Rattle.profile.specs.Profiles.{broken_by, judged_in, missing, letters_at, judged_at, judged, heard, profile_of}
use Rattle.profile.proofs.NumberLaws.{by_numbers}

-- ---- a chunk by the bytes that stand at it

module _ (container : List ℕ) (c n : ℕ) (enough : 45 ≤ n) (whole : c + 45 ≤ length container) where
  pub judged_in_lem : (streams : Streams) → judged_in (take n (drop c container)) c streams ≡ broken_by container c (be32 container c) (stream_of streams (be32 container c))
  judged_in_lem streams =
      rw (same_letters container c n enough whole, same_be16 container c n enough whole 8 (omega arith), same_be32 container c n enough whole 4 (omega arith))
      (by_numbers container c (be32 container c) (stream_of streams (be32 container c)))

-- ---- chunk by chunk

module _ (container : List ℕ) (reading : Applied) where
  -- the verdict on the chunks from a place on
  abbrev pub from : ℕ → Streams → Verdict
  from c streams = judged container streams (walk_from container reading c).chunks

  module _ (c : ℕ) (streams : Streams) where
    abbrev on : Walk → Verdict
    on walk = judged container streams walk.chunks

    pub none_left : chunk_at container reading c ≡ Ok None → missing (length container) streams ≡ from c streams
    unfolding judged
    none_left e = sym (ap on (walk_over container reading c e))

    pub none_read : (refusal : Refusal) → chunk_at container reading c ≡ Err refusal → missing (length container) streams ≡ from c streams
    unfolding judged
    none_read refusal e = sym (ap on (walk_refused container reading c refusal e))

    module _ (chunk : Chunk) (e : chunk_at container reading c ≡ Ok (Some chunk)) where
      pub it-breaks : ((judged_at container streams chunk).rule ≡ 0 → ⊥) → judged_at container streams chunk ≡ from c streams
      unfolding judged
      it-breaks n = rw (walk_found container reading c chunk e, ne_eqb (judged_at container streams chunk).rule 0 n)

      pub it-is-plain : (judged_at container streams chunk).rule ≡ 0 → from chunk.next (after_kind streams chunk.kind (letters_at container chunk)) ≡ from c streams
      unfolding judged
      it-is-plain n = rw (walk_found container reading c chunk e, eq-eqb (judged_at container streams chunk).rule 0 n)

-- ---- the whole film

module _ (container : List ℕ) where
  pub film_judged : (header : Header) (applied : Applied) (count video audio : ℕ) → survey_of (film_of container heard) ≡ Ok (record { header = header; reading = applied; count = count; video = video; audio = audio })
      → Ok (from container applied header.start (first_of header.audio)) ≡ profile_of container
  unfolding profile_of
  film_judged header applied count video audio e = rw (surveyed_film container heard header applied count video audio e)

  pub film_refused : (refusal : Refusal) → survey_of (film_of container heard) ≡ Err refusal → Err refusal ≡ profile_of container
  unfolding profile_of
  film_refused refusal e = rw (surveyed_refusal container heard refusal e)
