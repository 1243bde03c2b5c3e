-- No second answer meets a contract of this crate: what a caller learns makes two results one. Assumes nothing.
use mathlib.Core.Path.{◌≡◌}
use Rattle.laws.proofs.OneAnswer.{no_second_answer}
use Rattle.turns.proofs.shape_of.Reads as shape_of
use Rattle.turns.proofs.head_by.Reads as head-by
use Rattle.turns.proofs.chunk_size.Reads as chunk-size
use Rattle.turns.proofs.payload_in.Reads as payload-in
use Rattle.turns.proofs.turn_in.Reads as turn_in
use Rattle.turns.proofs.read_turns.Reads as read-turns
use Rattle.turns.proofs.stream_size.Reads as stream-size
use Rattle.turns.proofs.payload_of.Reads as payload-of
use Rattle.part.proofs.OneAnswer.{SamePart, one_part}

pub shape_of_once : (κs : _) (args : _) (r r' : _) (exit exit' : _) → shape_of.Learnt κs args r exit → shape_of.Learnt κs args r' exit' → r ≡ r'
shape_of_once κs args r r' exit exit' = no_second_answer

pub head_by_once : (κs : _) (args : _) (r r' : _) (exit exit' : _) → head-by.Learnt κs args r exit → head-by.Learnt κs args r' exit' → r ≡ r'
head_by_once κs args r r' exit exit' = no_second_answer

pub chunk_size_once : (κs : _) (args : _) (r r' : _) (exit exit' : _) → chunk-size.Learnt κs args r exit → chunk-size.Learnt κs args r' exit' → r ≡ r'
chunk_size_once κs args r r' exit exit' = no_second_answer

pub payload_in_once : (κs : _) (args : _) (r r' : _) (exit exit' : _) → payload-in.Learnt κs args r exit → payload-in.Learnt κs args r' exit' → r ≡ r'
payload_in_once κs args r r' exit exit' l l' = no_second_answer l.0 l'.0

pub turn_in_once : (κs : _) (args : _) (r r' : _) (exit exit' : _) → turn_in.Learnt κs args r exit → turn_in.Learnt κs args r' exit' → r ≡ r'
turn_in_once κs args r r' exit exit' l l' = no_second_answer l.0 l'.0

pub read_turns_once : (κs : _) (args : _) (r r' : _) (exit exit' : _) → read-turns.Learnt κs args r exit → read-turns.Learnt κs args r' exit' → r ≡ r'
read_turns_once κs args r r' exit exit' l l' = no_second_answer l.0 l'.0

pub stream_size_once : (κs : _) (args : _) (r r' : _) (exit exit' : _) → stream-size.Learnt κs args r exit → stream-size.Learnt κs args r' exit' → r ≡ r'
stream_size_once κs args r r' exit exit' = no_second_answer

pub payload_of_once : (κs : _) (args : _) (r r' : _) (exit exit' : _) → payload-of.Learnt κs args r exit → payload-of.Learnt κs args r' exit' → SamePart r r'
payload_of_once κs args r r' exit exit' = one_part args.0 _ _ r r'
