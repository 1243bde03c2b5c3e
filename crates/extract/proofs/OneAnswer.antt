-- No second answer meets a contract of this crate: what a caller learns makes two results, and with them both outputs at exit, equal.
-- Assumes nothing.
use mathlib.Core.Path.{◌≡◌, sym}
use Rattle.laws.proofs.OneAnswer.{no_second_answer}
use Rattle.extract.proofs.contents_of.Reads as contents-of
use Rattle.extract.proofs.extract.Reads as extract

pub extract_once : (κs : _) (args : _) (r r' : _) (exit exit' : _) → extract.Learnt κs args r exit → extract.Learnt κs args r' exit'
    → (r ≡ r') × (exit.1.1.1.0.now ≡ exit'.1.1.1.0.now) × (exit.1.1.1.1.0.now ≡ exit'.1.1.1.1.0.now)
extract_once κs args r r' exit exit' l l' =
    let e : r' ≡ r = no_second_answer l'.0 l.0 in
    (sym e, no_second_answer l.1 (rw e at l'.1), no_second_answer l.2 (rw e at l'.2))

pub contents_of_once : (κs : _) (args : _) (r r' : _) (exit exit' : _) → contents-of.Learnt κs args r exit → contents-of.Learnt κs args r' exit' → r ≡ r'
contents_of_once κs args r r' exit exit' = no_second_answer
