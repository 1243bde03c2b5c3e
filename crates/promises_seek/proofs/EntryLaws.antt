-- The entries of a list of chunks: they follow one another without a gap, and each comes from a video chunk, with the payloads before it. Assumes nothing.
use Prim.Native.Nat.{ℕ, zero, suc, ◌+◌, ◌<◌}
use mathlib.Core.Path.{◌≡◌, refl, ap, subst}
use mathlib.Core.List.{List, [], ◌∷◌, ◌++◌}
use native.Mathlib.Omega.{arith}
use lib.ListN.{length, get_or}
use Rattle.chunk.specs.declared.Kind.{Kind}
use Rattle.chunk.specs.declared.Kind.TheVariants.{Video, Audio, Other, End}
use Rattle.chunk.specs.declared.Chunk.{Chunk}
use Rattle.walk.specs.Walks.{video_in, size_of, video_size}
use Rattle.seek.specs.Entries.{entry_of}
use Rattle.index.specs.Entries.{of_kind, entries_from}
use Rattle.promises_seek.proofs.ChainLaws.{Chain}

-- what a chunk of some kind gives stands before the rest
one_more : (kind : Kind) (p start len : ℕ) (rest : List (List ℕ)) (q : ℕ) → Chain (p + video_in kind len) rest q → Chain p (of_kind kind p start len ++ rest) q
unfolding Chain
one_more Video p start len rest q c = (refl, c)
one_more Audio p start len rest q c = subst (λ (m : ℕ). Chain m rest q) (omega arith) c
one_more Other p start len rest q c = subst (λ (m : ℕ). Chain m rest q) (omega arith) c
one_more End p start len rest q c = subst (λ (m : ℕ). Chain m rest q) (omega arith) c

pub chained : (p : ℕ) (chunks : List Chunk) → Chain p (entries_from p chunks) (p + video_size chunks)
unfolding Chain entries_from size_of
chained p [] = omega arith
chained p (chunk ∷ chunks) =
    let more = p + video_in chunk.kind chunk.len in
    let e : more + video_size chunks ≡ p + video_size (chunk ∷ chunks) = omega arith in
    one_more chunk.kind p chunk.start chunk.len (entries_from more chunks) (p + video_size (chunk ∷ chunks)) (rw e at (chained more chunks))

-- an entry comes from a video chunk, whose payload begins where those before it end
pub record Comes (p : ℕ) (chunks : List Chunk) (entry : List ℕ) : Type 0 where
  pub before : List Chunk
  pub chunk : Chunk
  pub after : List Chunk
  pub split : chunks ≡ before ++ chunk ∷ after
  pub video : chunk.kind ≡ Video
  pub holds : entry ≡ entry_of (p + video_size before) chunk.start chunk.len

-- it comes from there too where a chunk stands before them
further : (p : ℕ) (chunk : Chunk) (chunks : List Chunk) (entry : List ℕ) → Comes (p + video_in chunk.kind chunk.len) chunks entry → Comes p (chunk ∷ chunks) entry
unfolding size_of
further p chunk chunks entry c =
    let e : p + video_in chunk.kind chunk.len + video_size c.before ≡ p + video_size (chunk ∷ c.before) = omega arith in
    record {
      before = chunk ∷ c.before;
      chunk = c.chunk;
      after = c.after;
      split = ap (λ (l : List Chunk). chunk ∷ l) c.split;
      video = c.video;
      holds = rw e at c.holds;
    }

module _ (p : ℕ) (chunk : Chunk) (chunks : List Chunk) where
  abbrev rest : List (List ℕ)
  rest = entries_from (p + video_in chunk.kind chunk.len) chunks

  by_kind : (kind : Kind) → chunk.kind ≡ kind → (i : ℕ) → i < length (of_kind kind p chunk.start chunk.len ++ rest)
      → ((j : ℕ) → j < length rest → Comes p (chunk ∷ chunks) (get_or rest j [])) → Comes p (chunk ∷ chunks) (get_or (of_kind kind p chunk.start chunk.len ++ rest) i [])
  unfolding size_of
  by_kind Video e zero h later =
      let z : p + 0 ≡ p = omega arith in
      record { before = []; chunk = chunk; after = chunks; split = refl; video = e; holds = rw z }
  by_kind Video e (suc i) h later = later i (omega arith)
  by_kind Audio e i h later = later i h
  by_kind Other e i h later = later i h
  by_kind End e i h later = later i h

pub comes : (p : ℕ) (chunks : List Chunk) (i : ℕ) → i < length (entries_from p chunks) → Comes p chunks (get_or (entries_from p chunks) i [])
unfolding entries_from
comes p [] i h = absurd (omega arith)
comes p (chunk ∷ chunks) i h =
    let more = p + video_in chunk.kind chunk.len in
    by_kind p chunk chunks chunk.kind refl i h (λ j k. further p chunk chunks (get_or (entries_from more chunks) j []) (comes more chunks j k))
