-- Ours, beyond the rules: the step at a place c of a container of which only the length is known, and a window: the bytes that stand at c, or the first of them.
use Rattle.std.specs.Prelude.{ℕ, ◌-◌, List, cond, ◌||◌, length, ltb, leb, Option, Some, None, Result}
use Rattle.chunk.specs.declared.Chunk.{Chunk}
use Rattle.refusal.specs.declared.Refusal.{Refusal}
use Rattle.reading.specs.declared.Applied.{Applied}
use Rattle.chunk.specs.Openings.{opening_at}
use Rattle.chunk.specs.Chunks.{step_of}

-- The step, if the window has an opening, or if so few bytes are left that no opening is asked. Else more bytes are needed
unfoldable pub step_in : List ℕ → ℕ → Applied → ℕ → Option (Result (Option Chunk) Refusal)
step_in window total reading c = cond (ltb (total - c) 45 || leb 45 (length window)) (Some (step_of total reading c (opening_at window 0))) None
