-- `payload_pieces::is_piece` meets its contract: one law for each answer. Assumes nothing.
use mathlib.Core.Path.{sym, ◌∙◌}
use native.Mathlib.Omega.{arith}
use Rattle.payload_pieces.proofs.PieceLaws.{too_far, no_start, by_end}
use Rattle.payload_pieces.proofs.is_piece.Goals as goal

pub returns-then-total-place : goal.returns-then-total-place
returns-then-total-place c = too_far _ _ _ _ (omega arith)

pub returns-then-total-place-2 : goal.returns-then-total-place-2
returns-then-total-place-2 c = too_far _ _ _ _ (omega arith)

pub returns-then-begins : goal.returns-then-begins
returns-then-begins c = c.ends.ensures ∙ by_end _ _ _ _ (omega arith) (sym c.begins.ensures ∙ c.if-begins.true)

pub returns : goal.returns
returns c = no_start _ _ _ _ (omega arith) (sym c.begins.ensures ∙ c.if-begins.false)
