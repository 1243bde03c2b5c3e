-- `payload_pieces::clear_piece` meets its contract: what the test says is what the definition asks; the first piece goes by the whole payload's rule, each other by the row before it. Assumes nothing.
use mathlib.Core.Path.{sym, ◌∙◌}
use Rattle.payload_pieces.proofs.PieceLaws.{lent_row, left_first, left_after, left_none}
use Rattle.payload_pieces.proofs.clear_piece.Goals as goal

pub returns-then-place-eq0 : goal.returns-then-place-eq0
returns-then-place-eq0 c =
    let asked = c.is_piece.ensures in
    let told = c.if-is_piece.true in
    (sym told ∙ asked, c.clear_by.ensures ∙ left_first _ _ _ _ _ _ (sym asked ∙ told) c.if-place-eq0.true)

pub row_of-requires : goal.row_of-requires
row_of-requires c =
    lent_row _ _ _ _ (sym c.is_piece.ensures ∙ c.if-is_piece.true) c.if-place-eq0.false

pub returns-then-is_piece : goal.returns-then-is_piece
returns-then-is_piece c =
    let asked = c.is_piece.ensures in
    let told = c.if-is_piece.true in (
      sym told ∙ asked,
      c.clear_after.ensures ∙ rw c.row_of.ensures (left_after _ _ _ _ _ _ (sym asked ∙ told) c.if-place-eq0.false),
    )

pub returns : goal.returns
returns c =
    let asked = c.is_piece.ensures in
    (sym c.if-is_piece.false ∙ asked, left_none _ _ _ _ _ _ (sym asked ∙ c.if-is_piece.false))
