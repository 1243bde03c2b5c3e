-- A walk in both payload modes: where every payload that is taken stands behind a header of 0x18, both find the same chunks. Assumes nothing.
use Rattle.std.proofs.Common.{◌≡◌, ℕ, zero, suc, ◌+◌, ◌-◌, true, List, length, sym, refl, ap, ◌∙◌, arith, Option, Some, None, Result, Ok, Err}
use Rattle.refusal.specs.declared.Refusal.{Refusal}
use Rattle.word.specs.Numbers.{be16}
use Rattle.reading.specs.declared.Applied.{Applied}
use Rattle.chunk.specs.declared.Chunk.{Chunk}
use Rattle.chunk.specs.Openings.{opening_at}
use Rattle.chunk.specs.Chunks.{is_taken, chunk_at}
use Rattle.chunk.proofs.FoundLaws.{found, over_in_every}
use Rattle.chunk.proofs.Promises.{ModesAgree}
use Rattle.walk.specs.Walks.{clean, go_on, onto, walk_for, walk_from}
use Rattle.walk.specs.Promises.{Plain}

module _ (container : List ℕ) (reading other : Applied) (same : reading.audio ≡ other.audio) where
  -- a chunk that is found, whose payload is not taken or stands behind a header of 0x18
  found_in_both : (c : ℕ) (chunk : Chunk) → chunk_at container reading c ≡ Ok (Some chunk)
      → (is_taken reading chunk.kind chunk.channel ≡ true → be16 container (chunk.start + 8) ≡ 0x18) → chunk_at container other c ≡ Ok (Some chunk)
  unfolding opening_at
  found_in_both c chunk e plain =
      let w = found container reading c chunk e in
      sym (ModesAgree container reading other c same (rw (w.kind, w.channel, w.start) at plain)) ∙ e

  same_step : (n c : ℕ)
      → ((d : ℕ) → (walk_for container reading n d).ending ≡ clean → Plain container reading (walk_for container reading n d).chunks → walk_for container other n d ≡ walk_for container reading n d)
      → (step : Result (Option Chunk) Refusal) → chunk_at container reading c ≡ step → (go_on step (walk_for container reading n)).ending ≡ clean
      → Plain container reading (go_on step (walk_for container reading n)).chunks → go_on (chunk_at container other c) (walk_for container other n) ≡ go_on step (walk_for container reading n)
  same_step n c ih (Ok None) e h plain = rw (over_in_every container reading other c e)
  same_step n c ih (Ok (Some chunk)) e h plain = rw (found_in_both c chunk e plain.0) (ap (onto chunk) (ih chunk.next h plain.1))
  same_step n c ih (Err refusal) e h plain = let z : ◌≡◌ {A = ℕ} 0 1 = cc in absurd (omega arith)

  same_for : (n c : ℕ) → (walk_for container reading n c).ending ≡ clean → Plain container reading (walk_for container reading n c).chunks → walk_for container other n c ≡ walk_for container reading n c
  unfolding walk_for
  same_for zero c h plain = refl
  same_for (suc n) c h plain = same_step n c (same_for n) (chunk_at container reading c) refl h plain

  pub same_walk : (c : ℕ) → (walk_from container reading c).ending ≡ clean → Plain container reading (walk_from container reading c).chunks → walk_from container other c ≡ walk_from container reading c
  unfolding walk_from
  same_walk c h plain = same_for (length container - c) c h plain
