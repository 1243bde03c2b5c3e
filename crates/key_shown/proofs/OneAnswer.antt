-- No second answer meets a contract of this crate: what a caller learns makes two results one. Assumes nothing.
use mathlib.Core.Path.{◌≡◌}
use Rattle.laws.proofs.OneAnswer.{no_second_answer}
use Rattle.key_shown.proofs.bits_from.Reads as bits-from
use Rattle.key_shown.proofs.key_bits.Reads as key-bits
use Rattle.key_shown.proofs.key_bits_reply.Reads as key-bits-reply

pub bits_from_once : (κs : _) (args : _) (r r' : _) (exit exit' : _) → bits-from.Learnt κs args r exit → bits-from.Learnt κs args r' exit' → r ≡ r'
bits_from_once κs args r r' exit exit' = no_second_answer

pub key_bits_once : (κs : _) (args : _) (r r' : _) (exit exit' : _) → key-bits.Learnt κs args r exit → key-bits.Learnt κs args r' exit' → r ≡ r'
key_bits_once κs args r r' exit exit' = no_second_answer

pub key_bits_reply_once : (κs : _) (args : _) (r r' : _) (exit exit' : _) → key-bits-reply.Learnt κs args r exit → key-bits-reply.Learnt κs args r' exit' → r ≡ r'
key_bits_reply_once κs args r r' exit exit' = no_second_answer
