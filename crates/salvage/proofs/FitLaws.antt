-- The loop that looks for the last cut that fits: what is left to walk has the answer of the whole. Assumes nothing.
use Rattle.std.specs.Prelude.{Some, None, Ok, Err}
use Prim.Native.Nat.{ℕ, max}
use mathlib.Core.Path.{◌≡◌}
use mathlib.Core.List.{List}
use Rattle.refusal.specs.declared.Refusal.{Refusal}
use Rattle.reading.specs.declared.Applied.{Applied}
use Rattle.chunk.specs.declared.Chunk.{Chunk}
use Rattle.chunk.specs.Chunks.{chunk_at}
use Rattle.walk.specs.Walks.{walk_from}
use Rattle.walk.proofs.WalkLaws.{walk_over, walk_found, walk_refused}
use Rattle.laws_prefix.specs.Needs.{need_of}
use Rattle.salvage.specs.Fits.{fitted, fit_from, fit_in}

-- the loop began at `start` and stands at c
abbrev pub Going : List ℕ → Applied → ℕ → ℕ → ℕ → ℕ → Type 0
Going container reading start c need best = fit_in need best (walk_from container reading c) ≡ fit_in 0 start (walk_from container reading start)

module _ (container : List ℕ) (reading : Applied) (start c need best : ℕ) (going : Going container reading start c need best) where
  pub fit_over : chunk_at container reading c ≡ Ok None → None ≡ fit_in 0 start (walk_from container reading start)
  unfolding fit_from
  fit_over e = rw (walk_over container reading c e) at going

  pub fit_found : (chunk : Chunk) → chunk_at container reading c ≡ Ok (Some chunk) → Going container reading start chunk.next (max need (need_of chunk)) (fitted need best chunk.start)
  unfolding fit_from
  fit_found chunk e = rw (walk_found container reading c chunk e) at going

  pub fit_refused : (refusal : Refusal) → chunk_at container reading c ≡ Err refusal → Some (record { place = fitted need best refusal.place; refusal = refusal }) ≡ fit_in 0 start (walk_from container reading start)
  unfolding fit_from
  fit_refused refusal e = rw (walk_refused container reading c refusal e) at going
