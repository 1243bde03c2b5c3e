-- No second answer meets a contract of this crate. Assumes nothing.
use mathlib.Core.Path.{◌≡◌}
use Rattle.laws.proofs.OneAnswer.{no_second_answer}
use Rattle.pieces_bits.proofs.payload_bits.Reads as payload-bits

pub payload_bits_once : (κs : _) (args : _) (r r' : _) (exit exit' : _) → payload-bits.Learnt κs args r exit → payload-bits.Learnt κs args r' exit' → r ≡ r'
payload_bits_once κs args r r' exit exit' = no_second_answer
