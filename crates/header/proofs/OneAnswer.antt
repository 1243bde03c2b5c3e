-- No second answer meets a contract of this crate: what a caller learns makes two results one. Assumes nothing.
use mathlib.Core.Path.{◌≡◌}
use Rattle.laws.proofs.OneAnswer.{no_second_answer}
use Rattle.header.proofs.read_header.Reads as read-header

pub read_header_once : (κs : _) (args : _) (r r' : _) (exit exit' : _) → read-header.Learnt κs args r exit → read-header.Learnt κs args r' exit' → r ≡ r'
read_header_once κs args r r' exit exit' = no_second_answer
