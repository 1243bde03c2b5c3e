-- A walk with less audio, where the walk with more of it ends clean: the same chunks, those of a channel that is not kept with their payloads skipped.
-- Assumes nothing.
use Rattle.std.specs.Prelude.{Some}
use Rattle.std.proofs.Common.{◌≡◌, ℕ, zero, suc, ◌-◌, Bool, List, map, length, refl, ap, ◌∙◌, arith, Option, None, Result, Ok, Err}
use Rattle.refusal.specs.declared.Refusal.{Refusal}
use Rattle.reading.specs.declared.Applied.{Applied}
use Rattle.chunk.specs.declared.Chunk.{Chunk}
use Rattle.chunk.specs.Chunks.{chunk_at}
use Rattle.chunk.specs.Channels.{keeping}
use Rattle.chunk.proofs.ChannelLaws.{TakesSome, keeping_found, keeping_next}
use Rattle.chunk.proofs.FoundLaws.{over_in_every}
use Rattle.walk.specs.Walks.{Walk, clean, go_on, onto, walk_for, walk_from}

module _ (kept : ℕ → Bool) (container : List ℕ) (all one : Applied) (narrow : TakesSome kept all one) where
  -- such chunks, ended clean
  abbrev narrowed : List Chunk → Walk
  narrowed chunks = record { chunks = map (keeping kept) chunks; ending = clean }

  keeping_step : (n c : ℕ) → ((d : ℕ) → (walk_for container all n d).ending ≡ clean → walk_for container one n d ≡ narrowed (walk_for container all n d).chunks)
      → (step : Result (Option Chunk) Refusal) → chunk_at container all c ≡ step → (go_on step (walk_for container all n)).ending ≡ clean
      → go_on (chunk_at container one c) (walk_for container one n) ≡ narrowed (go_on step (walk_for container all n)).chunks
  keeping_step n c ih (Ok None) e h = rw (over_in_every container all one c e)
  keeping_step n c ih (Ok (Some chunk)) e h =
      rw (keeping_found kept container all one narrow c chunk e)
      (ap (λ (d : ℕ). onto (keeping kept chunk) (walk_for container one n d)) (keeping_next kept chunk) ∙ ap (onto (keeping kept chunk)) (ih chunk.next h))
  keeping_step n c ih (Err refusal) e h = let z : ◌≡◌ {A = ℕ} 0 1 = cc in absurd (omega arith)

  keeping_for : (n c : ℕ) → (walk_for container all n c).ending ≡ clean → walk_for container one n c ≡ narrowed (walk_for container all n c).chunks
  unfolding walk_for
  keeping_for zero c h = refl
  keeping_for (suc n) c h = keeping_step n c (keeping_for n) (chunk_at container all c) refl h

  pub keeping_walk : (c : ℕ) → (walk_from container all c).ending ≡ clean → walk_from container one c ≡ narrowed (walk_from container all c).chunks
  unfolding walk_from
  keeping_walk c h = keeping_for (length container - c) c h
