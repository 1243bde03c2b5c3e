-- `list::record_at` meets its contract, by cases of what stands at the place. Assumes nothing.
use Rattle.std.specs.Prelude.{Option, Some, Result, Ok}
use Rattle.refusal.specs.declared.Refusal.{Refusal}
use Prim.Native.Nat.{ℕ, ◌+◌, ◌-◌, ◌≤◌, ◌<◌, ◌^◌}
use mathlib.Core.Path.{◌≡◌, sym, ap, ◌∙◌}
use mathlib.Core.List.{List}
use native.Mathlib.Omega.{arith}
use Rattle.reading.specs.declared.Applied.{Applied}
use Rattle.chunk.specs.declared.Chunk.{Chunk}
use Rattle.chunk.specs.Openings.{Bytes}
use Rattle.chunk.specs.Chunks.{chunk_at}
use Rattle.chunk.proofs.FoundLaws.{found}
use Rattle.list.specs.Filling.{step_of, step_at}
use Rattle.list.proofs.record_at.Goals as goal

-- a payload stands near its chunk's start
near : (container : List ℕ) (reading : Applied) → Bytes container → (c : ℕ) (chunk : Chunk) → chunk_at container reading c ≡ Ok (Some chunk)
    → (chunk.start ≤ chunk.payload) × (chunk.payload - chunk.start < 2 ^ 32)
near container reading bytes c chunk e =
    let w = found container reading c chunk e in
    (omega arith, omega (arith, bytes (c + 8), bytes (c + 8 + 1)))

step_is : (container : List ℕ) (reading : Applied) (place : ℕ) (found step : Result (Option Chunk) Refusal)
    → found ≡ chunk_at container reading place → found ≡ step → step_of step ≡ step_at container reading place
unfolding step_at
step_is container reading place found step e f = ap step_of (sym f ∙ e)

pub record_of-requires : goal.record_of-requires
record_of-requires c =
    near _ _ (λ (i : ℕ). omega (arith, c.shared_slice_known-1.given i)) _ _ (sym c.chunk_at.ensures ∙ c.in-Ok-Some.is ∙ ap Ok c.in-Ok-Some.field-0-is)

pub returns-in-Ok-None : goal.returns-in-Ok-None
returns-in-Ok-None c =
    c.no_record.ensures ∙ step_is _ _ _ _ _ c.chunk_at.ensures (c.in-Ok-None.is ∙ ap Ok c.in-Ok-None.field-0-is)

pub returns-in-Ok-Some : goal.returns-in-Ok-Some
returns-in-Ok-Some c =
    rw c.record_of.ensures (step_is _ _ _ _ _ c.chunk_at.ensures (c.in-Ok-Some.is ∙ ap Ok c.in-Ok-Some.field-0-is))

pub returns-in-Err : goal.returns-in-Err
returns-in-Err c =
    c.no_record-in-Err.ensures ∙ step_is _ _ _ _ _ c.chunk_at.ensures c.in-Err.is
