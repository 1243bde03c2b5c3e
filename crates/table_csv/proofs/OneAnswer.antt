-- No second answer meets the contract of `write_csv`: what a caller learns makes two answers equal, and then two outputs at exit. Assumes nothing.
use mathlib.Core.Path.{◌≡◌, sym}
use Rattle.laws.proofs.OneAnswer.{no_second_answer}
use Rattle.table_csv.proofs.write_csv.Reads as write-csv

pub write_csv_once : (κs : _) (args : _) (r r' : _) (exit exit' : _) → write-csv.Learnt κs args r exit → write-csv.Learnt κs args r' exit'
    → (r ≡ r') × (exit.1.1.1.0.now ≡ exit'.1.1.1.0.now)
write_csv_once κs args r r' exit exit' l l' = let e : r' ≡ r = no_second_answer l'.0 l.0 in (sym e, no_second_answer l.1 (rw e at l'.1))
