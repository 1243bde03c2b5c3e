-- No second answer meets the contract of this crate's function: what a caller learns makes two results one. Assumes nothing.
use mathlib.Core.Path.{◌≡◌}
use Rattle.laws.proofs.OneAnswer.{no_second_answer}
use Rattle.old_film_many.proofs.is_many.Reads as is-many

pub is_many_once : (κs : _) (args : _) (r r' : _) (exit exit' : _) → is-many.Learnt κs args r exit → is-many.Learnt κs args r' exit' → r ≡ r'
is_many_once κs args r r' exit exit' = no_second_answer
