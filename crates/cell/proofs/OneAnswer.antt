-- No second answer meets a contract of this crate: what a caller learns makes two results one. Assumes nothing.
use mathlib.Core.Path.{◌≡◌}
use Rattle.laws.proofs.OneAnswer.{no_second_answer}
use Rattle.part.proofs.OneAnswer.{SamePart, one_part}
use Rattle.cell.proofs.width_of.Reads as width_of_lem
use Rattle.cell.proofs.end_of.Reads as end_of_lem
use Rattle.cell.proofs.data_at.Reads as data-at
use Rattle.cell.proofs.read_cell.Reads as read_cell
use Rattle.cell.proofs.zero_cell.Reads as zero_cell_lem
use Rattle.cell.proofs.case_of.Reads as case-of
use Rattle.cell.proofs.value_of.Reads as value_of_lem
use Rattle.cell.proofs.length_of.Reads as length-of
use Rattle.cell.proofs.part_of.Reads as part_of

pub width_of_once : (κs : _) (args : _) (r r' : _) (exit exit' : _) → width_of_lem.Learnt κs args r exit → width_of_lem.Learnt κs args r' exit' → r ≡ r'
width_of_once κs args r r' exit exit' l l' = no_second_answer l.0 l'.0

pub end_of_once : (κs : _) (args : _) (r r' : _) (exit exit' : _) → end_of_lem.Learnt κs args r exit → end_of_lem.Learnt κs args r' exit' → r ≡ r'
end_of_once κs args r r' exit exit' = no_second_answer

pub data_at_once : (κs : _) (args : _) (r r' : _) (exit exit' : _) → data-at.Learnt κs args r exit → data-at.Learnt κs args r' exit' → r ≡ r'
data_at_once κs args r r' exit exit' = no_second_answer

pub read_cell_once : (κs : _) (args : _) (r r' : _) (exit exit' : _) → read_cell.Learnt κs args r exit → read_cell.Learnt κs args r' exit' → r ≡ r'
read_cell_once κs args r r' exit exit' = no_second_answer

pub zero_cell_once : (κs : _) (args : _) (r r' : _) (exit exit' : _) → zero_cell_lem.Learnt κs args r exit → zero_cell_lem.Learnt κs args r' exit' → r ≡ r'
zero_cell_once κs args r r' exit exit' = no_second_answer

pub case_of_once : (κs : _) (args : _) (r r' : _) (exit exit' : _) → case-of.Learnt κs args r exit → case-of.Learnt κs args r' exit' → r ≡ r'
case_of_once κs args r r' exit exit' = no_second_answer

pub value_of_once : (κs : _) (args : _) (r r' : _) (exit exit' : _) → value_of_lem.Learnt κs args r exit → value_of_lem.Learnt κs args r' exit' → r ≡ r'
value_of_once κs args r r' exit exit' = no_second_answer

pub length_of_once : (κs : _) (args : _) (r r' : _) (exit exit' : _) → length-of.Learnt κs args r exit → length-of.Learnt κs args r' exit' → r ≡ r'
length_of_once κs args r r' exit exit' = no_second_answer

pub part_of_once : (κs : _) (args : _) (r r' : _) (exit exit' : _) → part_of.Learnt κs args r exit → part_of.Learnt κs args r' exit' → SamePart r r'
part_of_once κs args r r' exit exit' = one_part args.0 _ _ r r'
