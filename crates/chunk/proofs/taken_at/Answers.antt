-- `chunk::taken_at` meets its contract: a header that is too short is refused first. Assumes nothing.
use mathlib.Core.Path.{sym, ◌∙◌}
use Rattle.chunk.proofs.CaseLaws.{short, held}
use Rattle.chunk.proofs.taken_at.Goals as goal

pub returns-then-is_short : goal.returns-then-is_short
returns-then-is_short c = c.refused.ensures ∙ short _ _ _ _ (sym c.is_short.ensures ∙ c.if-is_short.true)

pub returns : goal.returns
returns c =
    c.held_at.ensures ∙ held _ _ _ _ (sym c.is_short.ensures ∙ c.if-is_short.false) _ c.offset_of.ensures.0
