-- No second answer meets a contract of this crate: what a caller learns makes two results one. Assumes nothing.
use mathlib.Core.Path.{◌≡◌}
use Rattle.laws.proofs.OneAnswer.{no_second_answer}
use Rattle.table.proofs.read_table.Reads as read_table

pub read_table_once : (κs : _) (args : _) (r r' : _) (exit exit' : _) → read_table.Learnt κs args r exit → read_table.Learnt κs args r' exit' → r ≡ r'
read_table_once κs args r r' exit exit' = no_second_answer
