-- No second answer meets a contract of this crate. Assumes nothing.
use mathlib.Core.Path.{◌≡◌}
use Rattle.laws.proofs.OneAnswer.{no_second_answer}
use Rattle.piece_replies.proofs.open_reply.Reads as open-reply
use Rattle.piece_replies.proofs.step_reply.Reads as step-reply

pub open_reply_once : (κs : _) (args : _) (r r' : _) (exit exit' : _) → open-reply.Learnt κs args r exit → open-reply.Learnt κs args r' exit' → r ≡ r'
open_reply_once κs args r r' exit exit' = no_second_answer

pub step_reply_once : (κs : _) (args : _) (r r' : _) (exit exit' : _) → step-reply.Learnt κs args r exit → step-reply.Learnt κs args r' exit' → r ≡ r'
step_reply_once κs args r r' exit exit' = no_second_answer
