-- No second answer meets a contract of this crate: what a caller learns makes two results one. Assumes nothing.
use mathlib.Core.Path.{◌≡◌}
use Rattle.laws.proofs.OneAnswer.{no_second_answer}
use Rattle.statement_reasons.proofs.why_one.Reads as why-one

pub why_one_once : (κs : _) (args : _) (r r' : _) (exit exit' : _) → why-one.Learnt κs args r exit → why-one.Learnt κs args r' exit' → r ≡ r'
why_one_once κs args r r' exit exit' = no_second_answer
