-- `old_film::is_rebuilt` meets its contract: one piece after the other. Assumes nothing.
use Rattle.std.proofs.Common.{◌≡◌, Bool, true, false, sym, ◌∙◌}
use Rattle.old_film.proofs.is_rebuilt.Goals as goal
use Rattle.old_film.proofs.is_rebuilt.Goals.{then-name_stands, else-name_stands}

pub returns-then-stands_at : goal.returns-then-stands_at
returns-then-stands_at c =
    elim c.if-name_stands.branch [
      | then-name_stands w ↦
          rw (
            sym c.name_stands.ensures ∙ w.if-name_stands.true,
            sym (rw (c.video_block-block.ensures, c.name_size-first.ensures) at w.stands_at.ensures) ∙ sym w.value-is ∙ c.if-stands_at.true,
          ) c.ends_stand.ensures
      | else-name_stands w ↦ let never : ◌≡◌ {A = Bool} false true = sym w.if-name_stands.false ∙ sym w.value-is ∙ c.if-stands_at.true in cc
    ]

pub returns-else-stands_at : goal.returns-else-stands_at
returns-else-stands_at c =
    elim c.if-name_stands.branch [
      | then-name_stands w ↦
          rw (
            sym c.name_stands.ensures ∙ w.if-name_stands.true,
            sym (rw (c.video_block-block.ensures, c.name_size-first.ensures) at w.stands_at.ensures) ∙ sym w.value-is ∙ c.if-stands_at.false,
          ) c.if-stands_at.false
      | else-name_stands w ↦ rw (sym c.name_stands.ensures ∙ w.if-name_stands.false) c.if-stands_at.false
    ]
