-- No second answer meets a contract of this crate: what a caller learns makes two results one. Assumes nothing.
use Rattle.std.proofs.Common.{◌≡◌}
use Rattle.laws.proofs.OneAnswer.{no_second_answer}
use Rattle.utf8.proofs.is_utf8.Reads as is-utf8

pub is_utf8_once : (κs : _) (args : _) (r r' : _) (exit exit' : _) → is-utf8.Learnt κs args r exit → is-utf8.Learnt κs args r' exit' → r ≡ r'
is_utf8_once κs args r r' exit exit' = no_second_answer
