-- `chunk::opened_at` meets its contract: the test on the kind picks the case of `openedAt`. Assumes nothing.
use Rattle.std.specs.Prelude.{Some, Ok}
use mathlib.Core.Path.{sym, ap, ◌∙◌}
use Rattle.chunk.specs.declared.Chunk.{Chunk}
use Rattle.chunk.proofs.CaseLaws.{taken, skipped}
use Rattle.chunk.proofs.opened_at.Goals as goal

pub returns-then-is_taken : goal.returns-then-is_taken
returns-then-is_taken c = c.taken_at.ensures ∙ taken _ _ _ _ (sym c.is_taken.ensures ∙ c.if-is_taken.true)

pub returns : goal.returns
returns c = ap (λ (chunk : Chunk). Ok (Some chunk)) c.chunk_of.ensures ∙ skipped _ _ _ _ (sym c.is_taken.ensures ∙ c.if-is_taken.false)
