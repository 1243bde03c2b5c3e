-- `block::last_block` meets its contract: each answer follows from the tests before it. Assumes nothing.
use mathlib.Core.Path.{sym, ◌∙◌}
use native.Mathlib.Omega.{arith}
use Rattle.block.proofs.BlockLaws.{last_cut, last_other, last_marked}
use Rattle.block.proofs.last_block.Goals as goal

pub returns-then-left_from-lt-LETTERS : goal.returns-then-left_from-lt-LETTERS
returns-then-left_from-lt-LETTERS c =
    let a = c.args in
    c.refused.ensures ∙ last_cut a.bytes.now a.place (omega arith)

pub returns-then-read32-ne-SFV : goal.returns-then-read32-ne-SFV
returns-then-read32-ne-SFV c =
    let a = c.args in
    c.refused-then-read32-ne-SFV.ensures ∙ last_other a.bytes.now a.place (omega arith) (λ e. c.if-read32-ne-SFV.true (c.read32.ensures.0 ∙ e))

pub returns : goal.returns
returns c =
    let a = c.args in
    let marked = last_marked a.bytes.now a.place (omega arith) (sym c.read32.ensures.0 ∙ c.if-read32-ne-SFV.false) in
    rw (c.marked_at.ensures, c.chunks_after-chunks.ensures, marked)
