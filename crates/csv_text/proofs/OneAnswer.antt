-- No second answer meets a contract of this crate. Assumes nothing.
use Rattle.std.proofs.Common.{◌≡◌}
use Rattle.laws.proofs.OneAnswer.{no_second_answer}
use Rattle.csv_text.proofs.is_quoted.Reads as is-quoted

pub is_quoted_once : (κs : _) (args : _) (r r' : _) (exit exit' : _) → is-quoted.Learnt κs args r exit → is-quoted.Learnt κs args r' exit' → r ≡ r'
is_quoted_once κs args r r' exit exit' = no_second_answer
