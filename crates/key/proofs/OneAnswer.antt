-- No second answer meets a contract of this crate: what a caller learns makes two results one. Assumes nothing.
use Rattle.std.proofs.Common.{◌≡◌}
use Rattle.laws.proofs.OneAnswer.{no_second_answer}
use Rattle.key.proofs.key_table.Reads as key-table
use Rattle.key.proofs.counting_bits.Reads as counting-bits

pub key_table_once : (κs : _) (args : _) (r r' : _) (exit exit' : _) → key-table.Learnt κs args r exit → key-table.Learnt κs args r' exit' → r ≡ r'
key_table_once κs args r r' exit exit' = no_second_answer

pub counting_bits_once : (κs : _) (args : _) (r r' : _) (exit exit' : _) → counting-bits.Learnt κs args r exit → counting-bits.Learnt κs args r' exit' → r ≡ r'
counting_bits_once κs args r r' exit exit' = no_second_answer
