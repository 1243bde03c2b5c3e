-- No second answer meets a contract of this crate. Assumes nothing.
use mathlib.Core.Path.{◌≡◌}
use Rattle.laws.proofs.OneAnswer.{no_second_answer}
use Rattle.pieces.proofs.header_in.Reads as header-in
use Rattle.pieces.proofs.step_in.Reads as step_in

pub header_in_once : (κs : _) (args : _) (r r' : _) (exit exit' : _) → header-in.Learnt κs args r exit → header-in.Learnt κs args r' exit' → r ≡ r'
header_in_once κs args r r' exit exit' = no_second_answer

pub step_in_once : (κs : _) (args : _) (r r' : _) (exit exit' : _) → step_in.Learnt κs args r exit → step_in.Learnt κs args r' exit' → r ≡ r'
step_in_once κs args r r' exit exit' = no_second_answer
