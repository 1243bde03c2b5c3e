-- No second answer meets a contract of this crate: what a caller learns makes two results equal, and of two parts their place and their bytes. Assumes nothing.
use mathlib.Core.Path.{◌≡◌}
use Rattle.laws.proofs.OneAnswer.{no_second_answer}
use Rattle.part.proofs.OneAnswer.{SamePart, one_part}
use Rattle.salvage.proofs.salvage.Reads as salvage
use Rattle.salvage.proofs.beginning_of.Reads as beginning-of
use Rattle.salvage.proofs.salvage_reply.Reads as salvage-reply

pub salvage_once : (κs : _) (args : _) (r r' : _) (exit exit' : _) → salvage.Learnt κs args r exit → salvage.Learnt κs args r' exit' → r ≡ r'
salvage_once κs args r r' exit exit' = no_second_answer

pub beginning_of_once : (κs : _) (args : _) (r r' : _) (exit exit' : _) → beginning-of.Learnt κs args r exit → beginning-of.Learnt κs args r' exit' → SamePart r r'
beginning_of_once κs args r r' exit exit' = one_part args.0 _ _ r r'

pub salvage_reply_once : (κs : _) (args : _) (r r' : _) (exit exit' : _) → salvage-reply.Learnt κs args r exit → salvage-reply.Learnt κs args r' exit' → r ≡ r'
salvage_reply_once κs args r r' exit exit' = no_second_answer
