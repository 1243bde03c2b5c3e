-- `key_shown::key_bits` meets its contract, by the survey and by what the chunks show. Assumes nothing.
use mathlib.Core.Path.{sym, ◌∙◌}
use Rattle.std.proofs.lemmas.Result.{err_from_is_err_and}
use Rattle.key_shown.proofs.KeyBitsLaws.{bits_told, bits_refused}
use Rattle.key_shown.proofs.key_bits.Goals as goal

pub returns : goal.returns
returns c =
    let told = sym c.survey.ensures ∙ c.in_ok-survey.was in
    bits_told _ _ _ _ _ _ _ told _ c.is_adx-adx.ensures _ c.bits_from.ensures

pub returns-in_err-survey : goal.returns-in_err-survey
returns-in_err-survey c =
    let p = err_from_is_err_and c.from_residual.result c.from_residual.ensures.1 in rw (p.1, p.2)
    (bits_refused _ _ _ (sym c.survey.ensures ∙ c.in_err-survey.was))
