-- No second answer meets a contract of this crate: what a caller learns makes two results equal. Assumes nothing.
use mathlib.Core.Path.{◌≡◌}
use Rattle.laws.proofs.OneAnswer.{no_second_answer}
use Rattle.film.proofs.survey.Reads as survey

pub survey_once : (κs : _) (args : _) (r r' : _) (exit exit' : _) → survey.Learnt κs args r exit → survey.Learnt κs args r' exit' → r ≡ r'
survey_once κs args r r' exit exit' = no_second_answer
