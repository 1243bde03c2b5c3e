-- No second answer meets a contract of this crate: what a caller learns makes two results equal. Assumes nothing.
use mathlib.Core.Path.{◌≡◌}
use Rattle.laws.proofs.OneAnswer.{no_second_answer}
use Rattle.profile.proofs.profile.Reads as profile
use Rattle.profile.proofs.profile_reply.Reads as profile-reply
use Rattle.profile.proofs.steps.begin.Reads as begin
use Rattle.profile.proofs.steps.step.Reads as step
use Rattle.profile.proofs.steps.end.Reads as end

pub profile_once : (κs : _) (args : _) (r r' : _) (exit exit' : _) → profile.Learnt κs args r exit → profile.Learnt κs args r' exit' → r ≡ r'
profile_once κs args r r' exit exit' = no_second_answer

pub profile_reply_once : (κs : _) (args : _) (r r' : _) (exit exit' : _) → profile-reply.Learnt κs args r exit → profile-reply.Learnt κs args r' exit' → r ≡ r'
profile_reply_once κs args r r' exit exit' = no_second_answer

pub begin_once : (κs : _) (args : _) (r r' : _) (exit exit' : _) → begin.Learnt κs args r exit → begin.Learnt κs args r' exit' → r ≡ r'
begin_once κs args r r' exit exit' = no_second_answer

pub step_once : (κs : _) (args : _) (r r' : _) (exit exit' : _) → step.Learnt κs args r exit → step.Learnt κs args r' exit' → r ≡ r'
step_once κs args r r' exit exit' = no_second_answer

pub end_once : (κs : _) (args : _) (r r' : _) (exit exit' : _) → end.Learnt κs args r exit → end.Learnt κs args r' exit' → r ≡ r'
end_once κs args r r' exit exit' = no_second_answer
