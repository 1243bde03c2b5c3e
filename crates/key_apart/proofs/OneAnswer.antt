-- No second answer meets a contract of this crate. Assumes nothing.
use mathlib.Core.Path.{◌≡◌}
use Rattle.laws.proofs.OneAnswer.{no_second_answer}
use Rattle.key_apart.proofs.payload_apart.Reads as payload_apart

pub payload_apart_once : (κs : _) (args : _) (r r' : _) (exit exit' : _) → payload_apart.Learnt κs args r exit → payload_apart.Learnt κs args r' exit' → r ≡ r'
payload_apart_once κs args r r' exit exit' = no_second_answer
