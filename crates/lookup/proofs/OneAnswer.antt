-- No second answer meets a contract of this crate: what a caller learns makes two results one. Assumes nothing.
use mathlib.Core.Path.{◌≡◌}
use Rattle.laws.proofs.OneAnswer.{no_second_answer}
use Rattle.lookup.proofs.cell_of.Reads as cell-of
use Rattle.lookup.proofs.last_cell_of.Reads as last-cell-of
use Rattle.lookup.proofs.numbers.cell_by.Reads as cell-by
use Rattle.lookup.proofs.numbers.tag_by.Reads as tag-by

pub cell_of_once : (κs : _) (args : _) (r r' : _) (exit exit' : _) → cell-of.Learnt κs args r exit → cell-of.Learnt κs args r' exit' → r ≡ r'
cell_of_once κs args r r' exit exit' = no_second_answer

pub last_cell_of_once : (κs : _) (args : _) (r r' : _) (exit exit' : _) → last-cell-of.Learnt κs args r exit → last-cell-of.Learnt κs args r' exit' → r ≡ r'
last_cell_of_once κs args r r' exit exit' = no_second_answer

pub cell_by_once : (κs : _) (args : _) (r r' : _) (exit exit' : _) → cell-by.Learnt κs args r exit → cell-by.Learnt κs args r' exit' → r ≡ r'
cell_by_once κs args r r' exit exit' = no_second_answer

pub tag_by_once : (κs : _) (args : _) (r r' : _) (exit exit' : _) → tag-by.Learnt κs args r exit → tag-by.Learnt κs args r' exit' → r ≡ r'
tag_by_once κs args r r' exit exit' = no_second_answer
