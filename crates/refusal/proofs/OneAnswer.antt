-- No second answer meets a contract of this crate: what a caller learns makes two results one. Assumes nothing.
use mathlib.Core.Path.{◌≡◌}
use Rattle.laws.proofs.OneAnswer.{no_second_answer}
use Rattle.refusal.proofs.refused.Reads as refused
use Rattle.refusal.proofs.number_of.Reads as number_of_lem
use Rattle.refusal.proofs.beside_of.Reads as beside-of

pub refused_once : (t : _) (g : _) (κs : _) (args : _) (r r' : _) (exit exit' : _) → refused.Learnt t g κs args r exit → refused.Learnt t g κs args r' exit' → r ≡ r'
refused_once t g κs args r r' exit exit' = no_second_answer

pub number_of_once : (κs : _) (args : _) (r r' : _) (exit exit' : _) → number_of_lem.Learnt κs args r exit → number_of_lem.Learnt κs args r' exit' → r ≡ r'
number_of_once κs args r r' exit exit' = no_second_answer

pub beside_of_once : (κs : _) (args : _) (r r' : _) (exit exit' : _) → beside-of.Learnt κs args r exit → beside-of.Learnt κs args r' exit' → r ≡ r'
beside_of_once κs args r r' exit exit' = no_second_answer
