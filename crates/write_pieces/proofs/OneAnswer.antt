-- No second answer meets a contract of this crate: what a caller learns makes two results, and two outputs at exit, one. Assumes nothing.
use mathlib.Core.Path.{◌≡◌}
use Rattle.laws.proofs.OneAnswer.{no_second_answer}
use Rattle.write_pieces.proofs.turn_in.Reads as turn_in
use Rattle.write_pieces.proofs.store.Reads as store
use Rattle.write_pieces.proofs.write_turn.Reads as write-turn

pub turn_in_once : (κs : _) (args : _) (r r' : _) (exit exit' : _) → turn_in.Learnt κs args r exit → turn_in.Learnt κs args r' exit' → r ≡ r'
turn_in_once κs args r r' exit exit' = no_second_answer

pub store_once : (κs : _) (args : _) (r r' : _) (exit exit' : _) → store.Learnt κs args r exit → store.Learnt κs args r' exit'
    → (r ≡ r') × (exit.0.now ≡ exit'.0.now)
store_once κs args r r' exit exit' l l' = (no_second_answer l.0 l'.0, no_second_answer l.1 l'.1)

pub write_turn_once : (κs : _) (args : _) (r r' : _) (exit exit' : _) → write-turn.Learnt κs args r exit → write-turn.Learnt κs args r' exit'
    → (r ≡ r') × (exit.1.1.1.1.0.now ≡ exit'.1.1.1.1.0.now)
write_turn_once κs args r r' exit exit' l l' = (no_second_answer l.0 l'.0, no_second_answer l.1 l'.1)
