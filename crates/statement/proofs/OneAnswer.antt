-- No second answer meets a contract of this crate: what a caller learns makes two results, and two lists at exit, equal. Assumes nothing.
use mathlib.Core.Path.{◌≡◌}
use Rattle.laws.proofs.OneAnswer.{no_second_answer}
use Rattle.statement.proofs.state_by.Reads as state-by
use Rattle.statement.proofs.state.Reads as state

pub state_by_once : (κs : _) (args : _) (r r' : _) (exit exit' : _) → state-by.Learnt κs args r exit → state-by.Learnt κs args r' exit' → (r ≡ r') × (exit.1.1.1.0.now ≡ exit'.1.1.1.0.now)
state_by_once κs args r r' exit exit' e e' = (no_second_answer e.0 e'.0, no_second_answer e.1 e'.1)

pub state_once : (κs : _) (args : _) (r r' : _) (exit exit' : _) → state.Learnt κs args r exit → state.Learnt κs args r' exit' → (r ≡ r') × (exit.1.1.0.now ≡ exit'.1.1.0.now)
state_once κs args r r' exit exit' e e' = (no_second_answer e.0 e'.0, no_second_answer e.1 e'.1)
