-- A walk goes by steps, whatever number of chunks its definition allows: each chunk leaves fewer bytes. And what it comes to fits the bytes that are left.
-- Assumes nothing.
use Rattle.std.proofs.Common.{◌≡◌, ℕ, zero, suc, ◌+◌, ◌-◌, ◌<◌, ◌≤◌, List, [], ◌∷◌, ◌++◌, length, sym, refl, ap, ◌∙◌, arith, Option, Some, None, Result, Ok, Err}
use Rattle.refusal.specs.declared.Refusal.{Refusal}
use Rattle.reading.specs.declared.Applied.{Applied}
use Rattle.chunk.specs.declared.Kind.{Kind}
use Rattle.chunk.specs.declared.Kind.TheVariants.{Video, Audio, Other, End}
use Rattle.chunk.specs.declared.Chunk.{Chunk}
use Rattle.chunk.specs.Chunks.{chunk_at}
use Rattle.chunk.proofs.CaseLaws.{over}
use Rattle.chunk.proofs.FoundLaws.{found}
use Rattle.chunk.proofs.Promises.{RefusedByThree}
use Rattle.walk.specs.Walks.{clean, stopped, onto, go_on, walk_for, walk_from, video_in, audio_in, size_of, video_size, audio_size}

-- each chunk leaves fewer bytes
pub falls : (container : List ℕ) (reading : Applied) (c : ℕ) (chunk : Chunk) → chunk_at container reading c ≡ Ok (Some chunk) → length container - chunk.next < length container - c
falls container reading c chunk e = let w = found container reading c chunk e in omega arith

module _ (container : List ℕ) (reading : Applied) where
  -- two numbers of chunks that are no less than the bytes left give the same walk
  abbrev Same : ℕ → ℕ → Type 0
  Same m n = (c : ℕ) → length container - c ≤ m → length container - c ≤ n → walk_for container reading m c ≡ walk_for container reading n c

  step_same : (m n c : ℕ) → Same m n → length container - c ≤ suc m → length container - c ≤ suc n
      → (step : Result (Option Chunk) Refusal) → chunk_at container reading c ≡ step → go_on step (walk_for container reading m) ≡ go_on step (walk_for container reading n)
  step_same m n c ih h k (Ok None) e = refl
  step_same m n c ih h k (Ok (Some chunk)) e =
      let f = falls container reading c chunk e in
      ap (onto chunk) (ih chunk.next (omega arith) (omega arith))
  step_same m n c ih h k (Err refusal) e = refl

  none_left : (n c : ℕ) → length container - c ≤ 0 → walk_for container reading n c ≡ walk_for container reading 0 c
  unfolding walk_for
  none_left zero c h = refl
  none_left (suc n) c h = ap (λ (step : Result (Option Chunk) Refusal). go_on step (walk_for container reading n)) (sym (over container reading c (omega arith)))

  same : (m n : ℕ) → Same m n
  unfolding walk_for
  same zero n c h k = sym (none_left n c h)
  same (suc m) zero c h k = none_left (suc m) c k
  same (suc m) (suc n) c h k = step_same m n c (same m n) h k (chunk_at container reading c) refl

  rest : (c : ℕ) (step : Result (Option Chunk) Refusal) → chunk_at container reading c ≡ step → go_on step (walk_for container reading (length container)) ≡ go_on step (walk_from container reading)
  unfolding walk_from
  rest c (Ok None) e = refl
  rest c (Ok (Some chunk)) e = ap (onto chunk) (same (length container) (length container - chunk.next) chunk.next (omega arith) (omega arith))
  rest c (Err refusal) e = refl

  -- the law that a walker goes by
  pub walk_step : (c : ℕ) → walk_from container reading c ≡ go_on (chunk_at container reading c) (walk_from container reading)
  unfolding walk_from walk_for
  walk_step c = same (length container - c) (suc (length container)) c (omega arith) (omega arith) ∙ rest c (chunk_at container reading c) refl

  pub walk_over : (c : ℕ) → chunk_at container reading c ≡ Ok None → walk_from container reading c ≡ record { chunks = []; ending = clean }
  walk_over c e = walk_step c ∙ ap (λ (step : Result (Option Chunk) Refusal). go_on step (walk_from container reading)) e

  pub walk_found : (c : ℕ) (chunk : Chunk) → chunk_at container reading c ≡ Ok (Some chunk) → walk_from container reading c ≡ onto chunk (walk_from container reading chunk.next)
  walk_found c chunk e = walk_step c ∙ ap (λ (step : Result (Option Chunk) Refusal). go_on step (walk_from container reading)) e

  pub walk_refused : (c : ℕ) (refusal : Refusal) → chunk_at container reading c ≡ Err refusal → walk_from container reading c ≡ record { chunks = []; ending = stopped refusal }
  walk_refused c refusal e = walk_step c ∙ ap (λ (step : Result (Option Chunk) Refusal). go_on step (walk_from container reading)) e

-- ---- what a walk comes to fits the bytes that are left

-- a payload goes to one stream at most
both_in : (kind : Kind) (n : ℕ) → video_in kind n + audio_in kind n ≤ n
both_in Video n = omega arith
both_in Audio n = omega arith
both_in Other n = omega arith
both_in End n = omega arith

-- what holds of no chunks, and of a chunk before chunks of which it holds, holds of every walk. Each is stated with its place
module _ (container : List ℕ) (reading : Applied) (Holds : ℕ → List Chunk → Type 0) (none : (c : ℕ) → Holds c [])
    (more : (c : ℕ) (chunk : Chunk) (chunks : List Chunk) → chunk_at container reading c ≡ Ok (Some chunk) → Holds chunk.next chunks → Holds c (chunk ∷ chunks)) where
  by_step : (n c : ℕ) → ((d : ℕ) → Holds d (walk_for container reading n d).chunks) → (step : Result (Option Chunk) Refusal) → chunk_at container reading c ≡ step
      → Holds c (go_on step (walk_for container reading n)).chunks
  by_step n c ih (Ok None) e = none c
  by_step n c ih (Ok (Some chunk)) e = more c chunk (walk_for container reading n chunk.next).chunks e (ih chunk.next)
  by_step n c ih (Err refusal) e = none c

  by_count : (n c : ℕ) → Holds c (walk_for container reading n c).chunks
  unfolding walk_for
  by_count zero c = none c
  by_count (suc n) c = by_step n c (by_count n) (chunk_at container reading c) refl

  pub every_walk : (c : ℕ) → Holds c (walk_from container reading c).chunks
  unfolding walk_from
  every_walk c = by_count (length container - c) c

module _ (container : List ℕ) (reading : Applied) where
  abbrev Fits : ℕ → List Chunk → Type 0
  Fits c chunks = (video_size chunks + audio_size chunks ≤ length container - c) × (length chunks ≤ length container - c)

  one_more_fits : (c : ℕ) (chunk : Chunk) (chunks : List Chunk) → chunk_at container reading c ≡ Ok (Some chunk) → Fits chunk.next chunks → Fits c (chunk ∷ chunks)
  unfolding size_of
  one_more_fits c chunk chunks e rest =
      let w = found container reading c chunk e in
      let b = both_in chunk.kind chunk.len in
      (omega arith, omega arith)

  none_fits : (c : ℕ) → Fits c []
  unfolding size_of
  none_fits c = omega arith

  pub sizes_fit : (c : ℕ) → video_size (walk_from container reading c).chunks + audio_size (walk_from container reading c).chunks ≤ length container - c
  sizes_fit c = (every_walk container reading Fits none_fits one_more_fits c).0

  pub count_fits : (c : ℕ) → length (walk_from container reading c).chunks ≤ length container - c
  count_fits c = (every_walk container reading Fits none_fits one_more_fits c).1

-- ---- every chunk of a walk is found where it starts

module _ (container : List ℕ) (reading : Applied) where
  abbrev Stand : ℕ → List Chunk → Type 0
  Stand c chunks = (before after : List Chunk) (chunk : Chunk) → chunks ≡ before ++ chunk ∷ after → chunk_at container reading chunk.start ≡ Ok (Some chunk)

  none_stands : (c : ℕ) → Stand c []
  none_stands c [] after chunk s = let z : ◌≡◌ {A = ℕ} 0 1 = cc in absurd (omega arith)
  none_stands c (first ∷ before) after chunk s = let z : ◌≡◌ {A = ℕ} 0 1 = cc in absurd (omega arith)

  one_more_stands : (c : ℕ) (chunk : Chunk) (chunks : List Chunk) → chunk_at container reading c ≡ Ok (Some chunk) → Stand chunk.next chunks → Stand c (chunk ∷ chunks)
  one_more_stands c chunk chunks e rest [] after it s =
      let same : chunk ≡ it = cc in
      let at : c ≡ it.start = sym (found container reading c chunk e).start ∙ ap (λ (k : Chunk). k.start) same in
      rw at at (e ∙ ap (λ (k : Chunk). Ok (Some k)) same)
  one_more_stands c chunk chunks e rest (first ∷ before) after it s = rest before after it (cc)

  pub stands_at_its_start : (c : ℕ) (before after : List Chunk) (chunk : Chunk) → (walk_from container reading c).chunks ≡ before ++ chunk ∷ after → chunk_at container reading chunk.start ≡ Ok (Some chunk)
  stands_at_its_start = every_walk container reading Stand none_stands one_more_stands

-- ---- what stops a walk

module _ (container : List ℕ) (reading : Applied) (refusal : Refusal) where
  abbrev Stops : Type 0
  Stops = chunk_at container reading refusal.place ≡ Err refusal

  stops_here : (c : ℕ) (other : Refusal) → chunk_at container reading c ≡ Err other → stopped other ≡ stopped refusal → Stops
  stops_here c other e s =
      let same : other ≡ refusal = cc in
      let place : refusal.place ≡ c = ap (λ (r : Refusal). r.place) (sym same) ∙ (RefusedByThree container reading c other e).0 in
      ap (chunk_at container reading) place ∙ e ∙ ap Err same

  by_stop : (n c : ℕ) → ((d : ℕ) → (walk_for container reading n d).ending ≡ stopped refusal → Stops) → (step : Result (Option Chunk) Refusal) → chunk_at container reading c ≡ step
      → (go_on step (walk_for container reading n)).ending ≡ stopped refusal → Stops
  by_stop n c ih (Ok None) e s = let z : ◌≡◌ {A = ℕ} 0 1 = cc in absurd (omega arith)
  by_stop n c ih (Ok (Some chunk)) e s = ih chunk.next s
  by_stop n c ih (Err other) e s = stops_here c other e s

  stops_in : (n c : ℕ) → (walk_for container reading n c).ending ≡ stopped refusal → Stops
  unfolding walk_for
  stops_in zero c s = let z : ◌≡◌ {A = ℕ} 0 1 = cc in absurd (omega arith)
  stops_in (suc n) c s = by_stop n c (stops_in n) (chunk_at container reading c) refl s

  pub stops_at : (c : ℕ) → (walk_from container reading c).ending ≡ stopped refusal → Stops
  unfolding walk_from
  stops_at c s = stops_in (length container - c) c s
