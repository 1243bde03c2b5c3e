-- `turns::stands_whole` meets its contract: its pieces stand one after the other. Assumes nothing.
use Rattle.std.proofs.Common.{◌≡◌, Bool, true, false, sym, ◌∙◌}
use Rattle.turns.proofs.ChunkLaws.{stands_laid}
use Rattle.turns.proofs.stands_whole.Goals as goal
use Rattle.turns.proofs.stands_whole.Goals.{then-stands_at, else-stands_at}

pub returns-then-zeros_at : goal.returns-then-zeros_at
returns-then-zeros_at c =
    elim c.if-stands_at.branch [
      | then-stands_at w ↦
          sym (stands_laid c.args.shape c.args.len c.args.bytes.now c.requires.0
          ∙ rw (sym (rw c.head_by-head.ensures at c.stands_at.ensures) ∙ w.if-stands_at.true, sym w.zeros_at.ensures ∙ sym w.value-is ∙ c.if-zeros_at.true)
          (sym c.zeros_at-then-zeros_at.ensures))
      | else-stands_at w ↦ let never : ◌≡◌ {A = Bool} false true = sym w.if-stands_at.false ∙ sym w.value-is ∙ c.if-zeros_at.true in cc
    ]

pub returns-else-zeros_at : goal.returns-else-zeros_at
returns-else-zeros_at c =
    elim c.if-stands_at.branch [
      | then-stands_at w ↦
          sym (stands_laid c.args.shape c.args.len c.args.bytes.now c.requires.0
          ∙ rw (sym (rw c.head_by-head.ensures at c.stands_at.ensures) ∙ w.if-stands_at.true, sym w.zeros_at.ensures ∙ sym w.value-is ∙ c.if-zeros_at.false)
          (sym c.if-zeros_at.false))
      | else-stands_at w ↦
          sym (stands_laid c.args.shape c.args.len c.args.bytes.now c.requires.0
          ∙ rw (sym (rw c.head_by-head.ensures at c.stands_at.ensures) ∙ w.if-stands_at.false) (sym c.if-zeros_at.false))
    ]
