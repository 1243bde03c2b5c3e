-- No second answer meets a contract of this crate: what a caller learns makes two results one. Assumes nothing.
use mathlib.Core.Path.{◌≡◌}
use Rattle.laws.proofs.OneAnswer.{no_second_answer}
use Rattle.list.proofs.counted_in.Reads as counted-in
use Rattle.list.proofs.list_plan.Reads as list-plan
use Rattle.list.proofs.list_reply.Reads as list-reply
use Rattle.list.proofs.record_at.Reads as record-at

pub counted_in_once : (κs : _) (args : _) (r r' : _) (exit exit' : _) → counted-in.Learnt κs args r exit → counted-in.Learnt κs args r' exit' → r ≡ r'
counted_in_once κs args r r' exit exit' = no_second_answer

pub list_reply_once : (κs : _) (args : _) (r r' : _) (exit exit' : _) → list-reply.Learnt κs args r exit → list-reply.Learnt κs args r' exit' → r ≡ r'
list_reply_once κs args r r' exit exit' = no_second_answer

pub list_plan_once : (κs : _) (args : _) (r r' : _) (exit exit' : _) → list-plan.Learnt κs args r exit → list-plan.Learnt κs args r' exit' → r ≡ r'
list_plan_once κs args r r' exit exit' = no_second_answer

pub record_at_once : (κs : _) (args : _) (r r' : _) (exit exit' : _) → record-at.Learnt κs args r exit → record-at.Learnt κs args r' exit' → r ≡ r'
record_at_once κs args r r' exit exit' = no_second_answer
