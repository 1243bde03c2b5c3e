-- No second answer meets a contract of this crate: what a caller learns makes two results, and a slice at exit, one. Assumes nothing.
use mathlib.Core.Path.{◌≡◌}
use Rattle.laws.proofs.OneAnswer.{no_second_answer}
use Rattle.gate_sample.proofs.fill.Reads as fill
use Rattle.gate_sample.proofs.digest.Reads as digest

pub fill_once : (κs : _) (args : _) (r r' : _) (exit exit' : _) → fill.Learnt κs args r exit → fill.Learnt κs args r' exit' → exit.0.now ≡ exit'.0.now
fill_once κs args r r' exit exit' = no_second_answer

pub digest_once : (κs : _) (args : _) (r r' : _) (exit exit' : _) → digest.Learnt κs args r exit → digest.Learnt κs args r' exit' → r ≡ r'
digest_once κs args r r' exit exit' = no_second_answer
