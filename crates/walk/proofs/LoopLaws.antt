-- A loop over the chunks of a container, stated once for every loop: what is done so far, with the rest from here, is the whole.
-- What a loop gathers is a state of any type, to which each chunk adds. Assumes nothing.
use Rattle.std.proofs.Common.{◌≡◌, ℕ, List, [], ◌∷◌, refl, Some, None, Ok, Err}
use Rattle.refusal.specs.declared.Refusal.{Refusal}
use Rattle.reading.specs.declared.Applied.{Applied}
use Rattle.chunk.specs.declared.Chunk.{Chunk}
use Rattle.chunk.specs.Chunks.{chunk_at}
use Rattle.walk.specs.Walks.{Walk, clean, stopped, walk_from}
use Rattle.walk.proofs.WalkLaws.{walk_over, walk_found, walk_refused}

-- a state after some chunks
unfoldable pub gathered : {S : Type 0} → (S → Chunk → S) → S → List Chunk → S
gathered add s [] = s
gathered add s (chunk ∷ chunks) = gathered add (add s chunk) chunks

module _ {S : Type 0} (add : S → Chunk → S) (container : List ℕ) (reading : Applied) (start : ℕ) (first : S) where
  abbrev all : Walk
  all = walk_from container reading start

  -- the loop began with the state `first` at `start`, and stands at c with the state s
  pub record Loop (c : ℕ) (s : S) : Type 0 where
    pub whole : gathered add s (walk_from container reading c).chunks ≡ gathered add first all.chunks
    pub ends : (walk_from container reading c).ending ≡ all.ending

  pub loop_starts : Loop start first
  loop_starts = record { whole = refl; ends = refl }

  module _ (c : ℕ) (s : S) (loop : Loop c s) where
    pub loop_goes_on : (chunk : Chunk) → chunk_at container reading c ≡ Ok (Some chunk) → Loop chunk.next (add s chunk)
    unfolding gathered
    loop_goes_on chunk e =
        let w = walk_found container reading c chunk e in
        record { whole = rw w at loop.whole; ends = rw w at loop.ends }

    -- where no chunk is found, all is done
    pub loop_over : chunk_at container reading c ≡ Ok None → (s ≡ gathered add first all.chunks) × (clean ≡ all.ending)
    unfolding gathered
    loop_over e =
        let w = walk_over container reading c e in
        (rw w at loop.whole, rw w at loop.ends)

    pub loop_refused : (refusal : Refusal) → chunk_at container reading c ≡ Err refusal → (s ≡ gathered add first all.chunks) × (stopped refusal ≡ all.ending)
    unfolding gathered
    loop_refused refusal e =
        let w = walk_refused container reading c refusal e in
        (rw w at loop.whole, rw w at loop.ends)
