-- A loop that keeps the most that a chunk showed has, at its end, what all chunks show. Assumes nothing.
use Rattle.std.specs.Prelude.{Some, None, Ok, Err}
use mathlib.Core.Path.{◌≡◌, ◌∙◌}
use mathlib.Core.Bool.{Bool}
use mathlib.Core.List.{List, [], ◌∷◌}
use Prim.Native.Nat.{ℕ, max}
use native.Mathlib.Omega.{arith}
use Rattle.refusal.specs.declared.Refusal.{Refusal}
use Rattle.reading.specs.declared.Applied.{Applied}
use Rattle.chunk.specs.declared.Chunk.{Chunk}
use Rattle.chunk.specs.Chunks.{chunk_at}
use Rattle.walk.specs.Walks.{walk_from}
use Rattle.walk.proofs.LoopLaws.{gathered, Loop, loop_starts, loop_goes_on, loop_over, loop_refused}
use Rattle.key_shown.specs.Shown.{shown_in, shown_by}

module _ (adx : Bool) where
  -- with a chunk more
  abbrev pub more : ℕ → Chunk → ℕ
  more most chunk = max most (shown_in adx chunk)

  most_of : (most : ℕ) (chunks : List Chunk) → gathered more most chunks ≡ max most (shown_by adx chunks)
  unfolding gathered shown_by
  most_of most [] = omega arith
  most_of most (chunk ∷ chunks) = most_of (max most (shown_in adx chunk)) chunks ∙ omega arith

  all_shown : (chunks : List Chunk) → gathered more 0 chunks ≡ shown_by adx chunks
  all_shown chunks = most_of 0 chunks ∙ omega arith

  module _ (container : List ℕ) (reading : Applied) (start : ℕ) where
    -- the loop stands at c
    abbrev pub Showing : ℕ → ℕ → Type 0
    Showing c most = Loop more container reading start 0 c most

    pub showing_starts : Showing start 0
    showing_starts = loop_starts more container reading start 0

    module _ (c most : ℕ) (loop : Showing c most) where
      pub showing-over : chunk_at container reading c ≡ Ok None → most ≡ shown_by adx (walk_from container reading start).chunks
      showing-over e = (loop_over more container reading start 0 c most loop e).0 ∙ all_shown (walk_from container reading start).chunks

      pub showing-refused : (refusal : Refusal) → chunk_at container reading c ≡ Err refusal → most ≡ shown_by adx (walk_from container reading start).chunks
      showing-refused refusal e = (loop_refused more container reading start 0 c most loop refusal e).0 ∙ all_shown (walk_from container reading start).chunks

      pub showing-found : (chunk : Chunk) → chunk_at container reading c ≡ Ok (Some chunk) → (with : ℕ) → with ≡ more most chunk → Showing chunk.next with
      showing-found chunk e with w = rw w (loop_goes_on more container reading start 0 c most loop chunk e)
