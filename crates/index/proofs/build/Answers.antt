-- `index::build` meets its contract, by those of the survey, of the index of its chunks and of the reply. Assumes nothing.
use mathlib.Core.Path.{sym, ◌∙◌}
use Rattle.index.proofs.IndexLaws.{built, not_built}
use Rattle.index.proofs.build.Goals as goal

pub returns : goal.returns
returns c =
    let survey = rw c.as_original.ensures at c.survey.ensures in
    built _ _ _ _ _ _ _ (sym survey ∙ c.in-Ok.is) _ _ c.index_chunks.ensures.0 c.index_chunks.ensures.1 _ c.list_reply-2.ensures

pub returns-in-Err : goal.returns-in-Err
returns-in-Err c =
    let survey = rw c.as_original.ensures at c.survey.ensures in
    not_built _ _ _ (sym survey ∙ c.in-Err.is) _ c.list_reply.ensures
