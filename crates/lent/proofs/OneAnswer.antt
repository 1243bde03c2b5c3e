-- No second answer meets a contract of this crate: what a caller learns makes two results one. Assumes nothing.
use mathlib.Core.Path.{◌≡◌}
use Rattle.laws.proofs.OneAnswer.{no_second_answer}
use Rattle.lent.proofs.written_in.Reads as written_in
use Rattle.lent.proofs.size_reply.Reads as size-reply

pub written_in_once : (κs : _) (args : _) (r r' : _) (exit exit' : _) → written_in.Learnt κs args r exit → written_in.Learnt κs args r' exit' → r ≡ r'
written_in_once κs args r r' exit exit' = no_second_answer

pub size_reply_once : (κs : _) (args : _) (r r' : _) (exit exit' : _) → size-reply.Learnt κs args r exit → size-reply.Learnt κs args r' exit' → r ≡ r'
size_reply_once κs args r r' exit exit' = no_second_answer
