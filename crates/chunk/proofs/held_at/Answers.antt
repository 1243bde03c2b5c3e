-- `chunk::held_at` meets its contract: the tests on the sizes pick the case of `held_at`. Assumes nothing.
use Rattle.std.specs.Prelude.{Some, Ok}
use mathlib.Core.Path.{ap, ◌∙◌}
use Rattle.chunk.specs.declared.Chunk.{Chunk}
use Rattle.chunk.proofs.CaseLaws.{too_small, ran_out, present}
use Rattle.chunk.proofs.held_at.Goals as goal

pub returns-then-block-spare : goal.returns-then-block-spare
returns-then-block-spare c = c.refused.ensures ∙ too_small _ _ _ _ c.if-block-spare.true

pub returns-then-total-place : goal.returns-then-total-place
returns-then-total-place c = c.refused-then-total-place.ensures ∙ ran_out _ _ _ _ c.if-block-spare.false c.if-total-place.true

pub returns : goal.returns
returns c = ap (λ (chunk : Chunk). Ok (Some chunk)) c.chunk_of.ensures ∙ present _ _ _ _ c.if-block-spare.false c.if-total-place.false
