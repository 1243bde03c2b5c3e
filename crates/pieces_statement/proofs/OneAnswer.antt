-- No second answer meets a contract of this crate: what a caller learns makes two results, and two lists at exit, equal. Assumes nothing.
use mathlib.Core.Path.{◌≡◌}
use Rattle.laws.proofs.OneAnswer.{no_second_answer}
use Rattle.pieces_statement.proofs.begin.Reads as begin
use Rattle.pieces_statement.proofs.with_chunk.Reads as with-chunk
use Rattle.pieces_statement.proofs.state_as.Reads as state-as

pub begin_once : (κs : _) (args : _) (r r' : _) (exit exit' : _) → begin.Learnt κs args r exit → begin.Learnt κs args r' exit' → r ≡ r'
begin_once κs args r r' exit exit' = no_second_answer

pub with_chunk_once : (κs : _) (args : _) (r r' : _) (exit exit' : _) → with-chunk.Learnt κs args r exit → with-chunk.Learnt κs args r' exit' → r ≡ r'
with_chunk_once κs args r r' exit exit' = no_second_answer

pub state_as_once : (κs : _) (args : _) (r r' : _) (exit exit' : _) → state-as.Learnt κs args r exit → state-as.Learnt κs args r' exit' → (r ≡ r') × (exit.1.1.1.0.now ≡ exit'.1.1.1.0.now)
state_as_once κs args r r' exit exit' e e' = (no_second_answer e.0 e'.0, no_second_answer e.1 e'.1)
