-- `extract::extract` meets its contract: the survey and a test decide the answer, and only then are both streams written. Assumes nothing.
use mathlib.Core.Path.{sym, ◌∙◌}
use Rattle.std.proofs.lemmas.Result.{err_from_is_err_and}
use Rattle.extract.proofs.AnswerLaws.{not_surveyed, short_output, both_fit, extracted_film}
use Rattle.extract.proofs.extract.Goals as goal

pub returns-then-lacks : goal.returns-then-lacks
returns-then-lacks c =
    short_output _ _ _ _ _ _ _ _ _ _ (sym c.survey.ensures ∙ c.in_ok-survey.was)
    (sym c.lacks.ensures ∙ c.if-lacks.true) _ c.refused.ensures

pub write_streams-requires : goal.write_streams-requires
write_streams-requires c =
    both_fit _ _ _ _ _ _ _ (sym c.survey.ensures ∙ c.in_ok-survey.was) _ _ (sym c.lacks.ensures ∙ c.if-lacks.false)

pub returns : goal.returns
returns c =
    extracted_film _ _ _ _ _ _ _ _ _ _ (sym c.survey.ensures ∙ c.in_ok-survey.was) (sym c.lacks.ensures ∙ c.if-lacks.false) _
    c.unmasking_of-unmasking.ensures _ c.contents_of.ensures _ _ c.write_streams.ensures.0 c.write_streams.ensures.1

pub returns-in_err-survey : goal.returns-in_err-survey
returns-in_err-survey c =
    let p = err_from_is_err_and c.from_residual.result c.from_residual.ensures.1 in rw (p.1, p.2)
    (not_surveyed _ _ c.args.key _ _ _ (sym c.survey.ensures ∙ c.in_err-survey.was))
