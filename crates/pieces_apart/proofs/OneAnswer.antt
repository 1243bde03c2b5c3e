-- No second answer meets a contract of this crate: what a caller learns makes two results one. Assumes nothing.
use mathlib.Core.Path.{◌≡◌}
use Rattle.laws.proofs.OneAnswer.{no_second_answer}
use Rattle.pieces_apart.proofs.begin.Reads as begin
use Rattle.pieces_apart.proofs.with_chunk.Reads as with-chunk
use Rattle.pieces_apart.proofs.parting_of.Reads as parting-of

pub begin_once : (κs : _) (args : _) (r r' : _) (exit exit' : _) → begin.Learnt κs args r exit → begin.Learnt κs args r' exit' → r ≡ r'
begin_once κs args r r' exit exit' = no_second_answer

pub with_chunk_once : (κs : _) (args : _) (r r' : _) (exit exit' : _) → with-chunk.Learnt κs args r exit → with-chunk.Learnt κs args r' exit' → r ≡ r'
with_chunk_once κs args r r' exit exit' = no_second_answer

pub parting_of_once : (κs : _) (args : _) (r r' : _) (exit exit' : _) → parting-of.Learnt κs args r exit → parting-of.Learnt κs args r' exit' → r ≡ r'
parting_of_once κs args r r' exit exit' = no_second_answer
