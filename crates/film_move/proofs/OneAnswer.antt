-- No second answer meets a contract of this crate: what a caller learns makes two results, and with them the output at exit, one. Assumes nothing.
use mathlib.Core.Path.{◌≡◌, sym}
use Rattle.laws.proofs.OneAnswer.{no_second_answer}
use Rattle.film_move.proofs.onward.from_old.Reads as from_old
use Rattle.film_move.proofs.back.to_old.Reads as to-old

pub from_old_once : (κs : _) (args : _) (r r' : _) (exit exit' : _) → from_old.Learnt κs args r exit → from_old.Learnt κs args r' exit'
    → (r ≡ r') × (exit.1.1.1.0.now ≡ exit'.1.1.1.0.now)
from_old_once κs args r r' exit exit' l l' = let e : r' ≡ r = no_second_answer l'.0 l.0 in (sym e, no_second_answer l.1 (rw e at l'.1))

pub to_old_once : (κs : _) (args : _) (r r' : _) (exit exit' : _) → to-old.Learnt κs args r exit → to-old.Learnt κs args r' exit' → (r ≡ r') × (exit.1.0.now ≡ exit'.1.0.now)
to_old_once κs args r r' exit exit' l l' = let e : r' ≡ r = no_second_answer l'.0 l.0 in (sym e, no_second_answer l.1 (rw e at l'.1))
