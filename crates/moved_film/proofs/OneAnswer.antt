-- No second answer meets a contract of this crate: what a caller learns makes two results one. Assumes nothing.
use mathlib.Core.Path.{◌≡◌}
use Rattle.laws.proofs.OneAnswer.{no_second_answer}
use Rattle.moved_film.proofs.find.Reads as find

pub find_once : (κs : _) (args : _) (r r' : _) (exit exit' : _) → find.Learnt κs args r exit → find.Learnt κs args r' exit' → r ≡ r'
find_once κs args r r' exit exit' = no_second_answer
