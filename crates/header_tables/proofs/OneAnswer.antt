-- No second answer meets a contract of this crate: what a caller learns makes two results equal. Assumes nothing.
use mathlib.Core.Path.{◌≡◌}
use Rattle.laws.proofs.OneAnswer.{no_second_answer}
use Rattle.header_tables.proofs.header_tables.Reads as header-tables

pub header_tables_once : (κs : _) (args : _) (r r' : _) (exit exit' : _) → header-tables.Learnt κs args r exit → header-tables.Learnt κs args r' exit' → r ≡ r'
header_tables_once κs args r r' exit exit' = no_second_answer
