-- `block::marked_at` meets its contract: each answer follows from the tests before it. Assumes nothing.
use mathlib.Core.Path.{sym, ◌∙◌}
use native.Mathlib.Omega.{arith}
use Rattle.block.proofs.BlockLaws.{marker_cut, marker_there, marker_other}
use Rattle.block.proofs.marked_at.Goals as goal

pub returns-then-left_from-marker : goal.returns-then-left_from-marker
returns-then-left_from-marker c =
    let a = c.args in
    c.refused.ensures ∙ marker_cut a.bytes.now a.marker.now a.unmarked a.place a.next (omega arith)

pub returns-then-stands_at : goal.returns-then-stands_at
returns-then-stands_at c =
    let a = c.args in
    marker_there a.bytes.now a.marker.now a.unmarked a.place a.next (omega arith) (sym c.stands_at.ensures ∙ c.if-stands_at.true)

pub returns : goal.returns
returns c =
    let a = c.args in
    c.refused-2.ensures
    ∙ marker_other a.bytes.now a.marker.now a.unmarked a.place a.next (omega arith) (sym c.stands_at.ensures ∙ c.if-stands_at.false)
