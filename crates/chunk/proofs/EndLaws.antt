-- Where a walk over chunks ends: a step that gives no chunk is the end, or a refusal. Assumes nothing.
use Rattle.std.proofs.Common.{◌≡◌, ◌⊎◌, refl, Option, Some, None, Result, Ok, Err, inl, inr}
use Rattle.refusal.specs.declared.Refusal.{Refusal}
use Rattle.chunk.specs.declared.Chunk.{Chunk}

pub no_more : (found : Option Chunk) → ((chunk : Chunk) → found ≡ Some chunk → ⊥) → found ≡ None
no_more None never = refl
no_more (Some chunk) never = absurd (never chunk refl)

pub no_chunk : (step : Result (Option Chunk) Refusal) → ((chunk : Chunk) → step ≡ Ok (Some chunk) → ⊥) → (step ≡ Ok None) ⊎ ((refusal : Refusal) × (step ≡ Err refusal))
no_chunk (Ok None) never = inl refl
no_chunk (Ok (Some chunk)) never = absurd (never chunk refl)
no_chunk (Err refusal) never = inr (refusal, refl)
