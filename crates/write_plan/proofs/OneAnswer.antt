-- No second answer meets a contract of this crate: what a caller learns makes two results one, and two parts one, their place and their bytes. Assumes nothing.
use mathlib.Core.Path.{◌≡◌}
use Rattle.laws.proofs.OneAnswer.{no_second_answer}
use Rattle.part.proofs.OneAnswer.{SamePart, one_part}
use Rattle.write_plan.proofs.payload_from.Reads as payload-from
use Rattle.write_plan.proofs.audio_in.Reads as audio-in
use Rattle.write_plan.proofs.audio_size.Reads as audio-size
use Rattle.write_plan.proofs.ends_size.Reads as ends-size
use Rattle.write_plan.proofs.plan_header.Reads as plan-header
use Rattle.write_plan.proofs.plan.Reads as plan

pub payload_from_once : (κs : _) (args : _) (r r' : _) (exit exit' : _) → payload-from.Learnt κs args r exit → payload-from.Learnt κs args r' exit' → SamePart r r'
payload_from_once κs args r r' exit exit' = one_part args.0 _ _ r r'

pub audio_in_once : (κs : _) (args : _) (r r' : _) (exit exit' : _) → audio-in.Learnt κs args r exit → audio-in.Learnt κs args r' exit' → SamePart r r'
audio_in_once κs args r r' exit exit' = one_part args.1.0 _ _ r r'

pub plan_once : (κs : _) (args : _) (r r' : _) (exit exit' : _) → plan.Learnt κs args r exit → plan.Learnt κs args r' exit' → r ≡ r'
plan_once κs args r r' exit exit' = no_second_answer

pub audio_size_once : (κs : _) (args : _) (r r' : _) (exit exit' : _) → audio-size.Learnt κs args r exit → audio-size.Learnt κs args r' exit' → r ≡ r'
audio_size_once κs args r r' exit exit' = no_second_answer

pub ends_size_once : (κs : _) (args : _) (r r' : _) (exit exit' : _) → ends-size.Learnt κs args r exit → ends-size.Learnt κs args r' exit' → r ≡ r'
ends_size_once κs args r r' exit exit' = no_second_answer

pub plan_header_once : (κs : _) (args : _) (r r' : _) (exit exit' : _) → plan-header.Learnt κs args r exit → plan-header.Learnt κs args r' exit' → r ≡ r'
plan_header_once κs args r r' exit exit' = no_second_answer
