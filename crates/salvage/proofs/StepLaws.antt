-- A walk, step by step: where its chunks start, and that these places rise and lie within the container. Assumes nothing.
use Rattle.std.specs.Prelude.{Option, Some, None, Result, Ok, Err}
use Prim.Native.Nat.{ℕ, zero, suc, ◌-◌, ◌≤◌}
use mathlib.Core.Path.{◌≡◌, refl, sym}
use mathlib.Core.List.{List, [], ◌∷◌}
use native.Mathlib.Omega.{arith}
use lib.ListN.{length}
use Rattle.refusal.specs.declared.Refusal.{Refusal}
use Rattle.reading.specs.declared.Applied.{Applied}
use Rattle.chunk.specs.declared.Chunk.{Chunk}
use Rattle.chunk.specs.Chunks.{chunk_at}
use Rattle.chunk.proofs.CaseLaws as cases
use Rattle.chunk.proofs.FoundLaws.{found}
use Rattle.walk.specs.Walks.{Walk, Ending, clean, stopped, go_on, walk_for, walk_from}
use Rattle.laws_prefix.proofs.ChunkLaws.{refused_there}
use Rattle.salvage.specs.Salvage.{starts_of}
use Rattle.salvage.proofs.SearchLaws.{Rising, none, more}

-- the chunks from c on, and how they end
pub data Steps (container : List ℕ) (reading : Applied) : ℕ → List Chunk → Ending → Type 0 where
  over : {c : ℕ} → chunk_at container reading c ≡ Ok None → Steps container reading c [] clean
  stop : {c : ℕ} {refusal : Refusal} → chunk_at container reading c ≡ Err refusal → Steps container reading c [] (stopped refusal)
  step : {c : ℕ} {chunk : Chunk} {chunks : List Chunk} {ending : Ending} → chunk_at container reading c ≡ Ok (Some chunk) → Steps container reading chunk.next chunks ending
      → Steps container reading c (chunk ∷ chunks) ending

-- places that rise from q on rise from each place before it
from_before : {top p q : ℕ} {ps : List ℕ} → p ≤ q → Rising top q ps → Rising top p ps
from_before h none = none
from_before {top} {p} h (more {q = r} k l rest) = let g : p ≤ r = omega arith in more g l rest

module _ (container : List ℕ) (reading : Applied) where
  abbrev StepsOf : ℕ → Walk → Type 0
  StepsOf c walk = Steps container reading c walk.chunks walk.ending

  by_step : (n c : ℕ) → ((d : ℕ) → length container - d ≤ n → StepsOf d (walk_for container reading n d)) → length container - c ≤ suc n → (x : Result (Option Chunk) Refusal) → chunk_at container reading c ≡ x
      → StepsOf c (go_on x (walk_for container reading n))
  by_step n c rest h (Ok None) e = over e
  by_step n c rest h (Ok (Some chunk)) e = let w = found container reading c chunk e in step e (rest chunk.next (omega (arith, w.whole, w.past)))
  by_step n c rest h (Err refusal) e = stop e

  by_count : (n c : ℕ) → length container - c ≤ n → StepsOf c (walk_for container reading n c)
  unfolding walk_for
  by_count zero c h = over (sym (cases.over container reading c (omega arith)))
  by_count (suc n) c h = by_step n c (by_count n) h (chunk_at container reading c) refl

  pub steps_of : (c : ℕ) → StepsOf c (walk_from container reading c)
  unfolding walk_from
  steps_of c = by_count (length container - c) c (omega arith)

  -- its places rise from c on, and lie within the container
  pub starts_rise : {c : ℕ} {chunks : List Chunk} {ending : Ending} → Steps container reading c chunks ending → Rising (length container) c (starts_of chunks ending)
  unfolding starts_of
  starts_rise (over e) = none
  starts_rise (stop {c} {refusal} e) =
      let w = refused_there container reading c refusal e in
      let here : c ≤ refusal.place = omega (arith, w.0) in
      let there : refusal.place ≤ length container = omega (arith, w.0, w.1) in
      more here there none
  starts_rise (step {c} {chunk} {chunks} {ending} e rest) =
      let w = found container reading c chunk e in
      let here : c ≤ chunk.start = omega (arith, w.start) in
      let there : chunk.start ≤ length container = omega (arith, w.start, w.whole) in
      let next : chunk.start ≤ chunk.next = omega (arith, w.start, w.past) in
      more here there (from_before next (starts_rise rest))
