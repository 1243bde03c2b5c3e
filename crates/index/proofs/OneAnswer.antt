-- No second answer meets a contract of this crate: what a caller learns makes two replies, and two lists at exit, one. Assumes nothing.
use mathlib.Core.Path.{◌≡◌}
use Rattle.laws.proofs.OneAnswer.{no_second_answer}
use Rattle.index.proofs.build.Reads as build

pub build_once : (κs : _) (args : _) (r r' : _) (exit exit' : _) → build.Learnt κs args r exit → build.Learnt κs args r' exit'
    → (r ≡ r') × (exit.1.0.now ≡ exit'.1.0.now)
build_once κs args r r' exit exit' l l' = (no_second_answer l.0 l'.0, no_second_answer l.1 l'.1)
