-- `chunk::read_payload` meets its contract, by cases of the step. Assumes nothing.
use Rattle.std.specs.Prelude.{Ok}
use mathlib.Core.Path.{refl, sym, ap, ◌∙◌}
use Rattle.chunk.proofs.read_payload.Goals as goal

pub returns-in-Ok-None : goal.returns-in-Ok-None
returns-in-Ok-None c =
    rw (sym c.chunk_at.ensures ∙ c.in-Ok-None.is ∙ ap Ok c.in-Ok-None.field-0-is) (refl, refl, refl)

pub returns-in-Ok-Some : goal.returns-in-Ok-Some
returns-in-Ok-Some c =
    rw (sym c.chunk_at.ensures ∙ c.in-Ok-Some.is ∙ ap Ok c.in-Ok-Some.field-0-is) c.payload_of.ensures

pub returns-in-Err : goal.returns-in-Err
returns-in-Err c =
    rw (sym c.chunk_at.ensures ∙ c.in-Err.is) (refl, refl, refl)
