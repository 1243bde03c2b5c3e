-- No second answer meets a contract of this crate. Assumes nothing.
use mathlib.Core.Path.{◌≡◌}
use Rattle.laws.proofs.OneAnswer.{no_second_answer}
use Rattle.film_apart.proofs.film_apart.Reads as film-apart
use Rattle.film_apart.proofs.apart_reply.Reads as apart-reply
use Rattle.film_apart.proofs.why_same.Reads as why-same
use Rattle.film_apart.proofs.why_number.Reads as why-number

pub film_apart_once : (κs : _) (args : _) (r r' : _) (exit exit' : _) → film-apart.Learnt κs args r exit → film-apart.Learnt κs args r' exit' → r ≡ r'
film_apart_once κs args r r' exit exit' = no_second_answer

pub apart_reply_once : (κs : _) (args : _) (r r' : _) (exit exit' : _) → apart-reply.Learnt κs args r exit → apart-reply.Learnt κs args r' exit' → r ≡ r'
apart_reply_once κs args r r' exit exit' = no_second_answer

pub why_same_once : (κs : _) (args : _) (r r' : _) (exit exit' : _) → why-same.Learnt κs args r exit → why-same.Learnt κs args r' exit' → r ≡ r'
why_same_once κs args r r' exit exit' = no_second_answer

pub why_number_once : (κs : _) (args : _) (r r' : _) (exit exit' : _) → why-number.Learnt κs args r exit → why-number.Learnt κs args r' exit' → r ≡ r'
why_number_once κs args r r' exit exit' = no_second_answer
