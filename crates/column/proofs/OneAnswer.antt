-- No second answer meets a contract of this crate: what a caller learns makes two results one. Assumes nothing.
use mathlib.Core.Path.{◌≡◌}
use Rattle.laws.proofs.OneAnswer.{no_second_answer}
use Rattle.column.proofs.kind_of.Reads as kind-of
use Rattle.column.proofs.storage_of.Reads as storage-of
use Rattle.column.proofs.in_record.Reads as in-record
use Rattle.column.proofs.in_row.Reads as in_row
use Rattle.column.proofs.read_column.Reads as read-column

pub kind_of_once : (κs : _) (args : _) (r r' : _) (exit exit' : _) → kind-of.Learnt κs args r exit → kind-of.Learnt κs args r' exit' → r ≡ r'
kind_of_once κs args r r' exit exit' = no_second_answer

pub storage_of_once : (κs : _) (args : _) (r r' : _) (exit exit' : _) → storage-of.Learnt κs args r exit → storage-of.Learnt κs args r' exit' → r ≡ r'
storage_of_once κs args r r' exit exit' = no_second_answer

pub in_record_once : (κs : _) (args : _) (r r' : _) (exit exit' : _) → in-record.Learnt κs args r exit → in-record.Learnt κs args r' exit' → r ≡ r'
in_record_once κs args r r' exit exit' l l' = no_second_answer l.0 l'.0

pub in_row_once : (κs : _) (args : _) (r r' : _) (exit exit' : _) → in_row.Learnt κs args r exit → in_row.Learnt κs args r' exit' → r ≡ r'
in_row_once κs args r r' exit exit' l l' = no_second_answer l.0 l'.0

pub read_column_once : (κs : _) (args : _) (r r' : _) (exit exit' : _) → read-column.Learnt κs args r exit → read-column.Learnt κs args r' exit' → r ≡ r'
read_column_once κs args r r' exit exit' = no_second_answer
