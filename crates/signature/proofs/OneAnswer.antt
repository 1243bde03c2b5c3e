-- No second answer meets a contract of this crate: what a caller learns makes two results one. Assumes nothing.
use Rattle.std.proofs.Common.{◌≡◌}
use Rattle.laws.proofs.OneAnswer.{no_second_answer}
use Rattle.signature.proofs.stands_at.Reads as stands_at

pub stands_at_once : (κs : _) (args : _) (r r' : _) (exit exit' : _) → stands_at.Learnt κs args r exit → stands_at.Learnt κs args r' exit' → r ≡ r'
stands_at_once κs args r r' exit exit' = no_second_answer
