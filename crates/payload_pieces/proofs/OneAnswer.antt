-- No second answer meets a contract of this crate: what a caller learns makes two results, and two pieces at exit, equal. Assumes nothing.
use mathlib.Core.Path.{◌≡◌}
use Rattle.laws.proofs.OneAnswer.{no_second_answer}
use Rattle.payload_pieces.proofs.is_piece.Reads as is-piece
use Rattle.payload_pieces.proofs.clear_piece.Reads as clear-piece

pub is_piece_once : (κs : _) (args : _) (r r' : _) (exit exit' : _) → is-piece.Learnt κs args r exit → is-piece.Learnt κs args r' exit' → r ≡ r'
is_piece_once κs args r r' exit exit' = no_second_answer

pub clear_piece_once : (κs : _) (args : _) (r r' : _) (exit exit' : _) → clear-piece.Learnt κs args r exit → clear-piece.Learnt κs args r' exit'
    → (r ≡ r') × (exit.1.1.1.1.1.0.now ≡ exit'.1.1.1.1.1.0.now)
clear_piece_once κs args r r' exit exit' l l' = (no_second_answer l.0 l'.0, no_second_answer l.1 l'.1)
