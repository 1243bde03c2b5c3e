-- No second answer meets a contract of this crate: what a caller learns makes two results equal. Assumes nothing.
use Rattle.std.proofs.Common.{◌≡◌}
use Rattle.laws.proofs.OneAnswer.{no_second_answer}
use Rattle.seek.proofs.entry.Reads as entry
use Rattle.seek.proofs.seek.Reads as seek
use Rattle.seek.proofs.seek_reply.Reads as seek-reply

pub entry_once : (κs : _) (args : _) (r r' : _) (exit exit' : _) → entry.Learnt κs args r exit → entry.Learnt κs args r' exit' → r ≡ r'
entry_once κs args r r' exit exit' = no_second_answer

pub seek_once : (κs : _) (args : _) (r r' : _) (exit exit' : _) → seek.Learnt κs args r exit → seek.Learnt κs args r' exit' → r ≡ r'
seek_once κs args r r' exit exit' = no_second_answer

pub seek_reply_once : (κs : _) (args : _) (r r' : _) (exit exit' : _) → seek-reply.Learnt κs args r exit → seek-reply.Learnt κs args r' exit' → r ≡ r'
seek_reply_once κs args r r' exit exit' = no_second_answer
