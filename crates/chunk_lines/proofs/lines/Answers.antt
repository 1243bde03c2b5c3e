-- `chunk_lines::lines` meets its contract: a survey that accepts is of the film whose chunks are printed, and one that refuses has the refusal. Assumes nothing.
use mathlib.Core.Path.{sym, ◌∙◌}
use Rattle.laws.proofs.PutLaws.{put_first}
use Rattle.chunk_lines.proofs.TextLaws.{too_long, accepted, not_accepted}
use Rattle.chunk_lines.proofs.lines.Goals as goal

pub returns-then-container-gt-LONGEST : goal.returns-then-container-gt-LONGEST
returns-then-container-gt-LONGEST c = put_first c.put_refusal.ensures (too_long _ c.if-container-gt-LONGEST.true)

pub returns-in-Ok : goal.returns-in-Ok
returns-in-Ok c =
    put_first c.put_chunks.ensures
    (accepted _ c.if-container-gt-LONGEST.false _ _ _ _ _ (sym (rw c.as_original.ensures at c.survey.ensures) ∙ c.in-Ok.is))

pub returns-in-Err : goal.returns-in-Err
returns-in-Err c =
    put_first c.put_refusal-in-Err.ensures
    (not_accepted _ c.if-container-gt-LONGEST.false _ (sym (rw c.as_original.ensures at c.survey.ensures) ∙ c.in-Err.is))
