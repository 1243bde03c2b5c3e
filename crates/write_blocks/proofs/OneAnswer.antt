-- No second answer meets a contract of this crate: what a caller learns makes two results one. Assumes nothing.
use mathlib.Core.Path.{◌≡◌}
use Rattle.laws.proofs.OneAnswer.{no_second_answer}
use Rattle.write_blocks.proofs.low32.Reads as low-32
use Rattle.write_blocks.proofs.name_cell.Reads as name-cell
use Rattle.write_blocks.proofs.block_head.Reads as block-head
use Rattle.write_blocks.proofs.table_head.Reads as table-head

pub name_cell_once : (κs : _) (args : _) (r r' : _) (exit exit' : _) → name-cell.Learnt κs args r exit → name-cell.Learnt κs args r' exit' → r ≡ r'
name_cell_once κs args r r' exit exit' = no_second_answer

pub block_head_once : (κs : _) (args : _) (r r' : _) (exit exit' : _) → block-head.Learnt κs args r exit → block-head.Learnt κs args r' exit' → r ≡ r'
block_head_once κs args r r' exit exit' = no_second_answer

pub table_head_once : (κs : _) (args : _) (r r' : _) (exit exit' : _) → table-head.Learnt κs args r exit → table-head.Learnt κs args r' exit' → r ≡ r'
table_head_once κs args r r' exit exit' = no_second_answer

pub low32_once : (κs : _) (args : _) (r r' : _) (exit exit' : _) → low-32.Learnt κs args r exit → low-32.Learnt κs args r' exit' → r ≡ r'
low32_once κs args r r' exit exit' = no_second_answer
