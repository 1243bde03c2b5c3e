-- No second answer meets a contract of this crate: what a caller learns makes two results one. Assumes nothing.
use mathlib.Core.Path.{◌≡◌}
use Rattle.laws.proofs.OneAnswer.{no_second_answer}
use Rattle.reading.proofs.takes_channel.Reads as takes-channel
use Rattle.reading.proofs.as_original.Reads as as-original
use Rattle.reading.proofs.mode_by.Reads as mode-by
use Rattle.reading.proofs.reading_by.Reads as reading-by
use Rattle.reading.proofs.applied_to.Reads as applied-to
use Rattle.reading.proofs.PayloadModeFromU8.from.Reads as payloads-from
use Rattle.reading.proofs.TableModeFromU8.from.Reads as tables-from
use Rattle.reading.proofs.ReadingFromReadingBytes.from.Reads as reading-from

pub takes_channel_once : (κs : _) (args : _) (r r' : _) (exit exit' : _) → takes-channel.Learnt κs args r exit → takes-channel.Learnt κs args r' exit' → r ≡ r'
takes_channel_once κs args r r' exit exit' = no_second_answer

pub as_original_once : (κs : _) (args : _) (r r' : _) (exit exit' : _) → as-original.Learnt κs args r exit → as-original.Learnt κs args r' exit' → r ≡ r'
as_original_once κs args r r' exit exit' = no_second_answer

pub mode_by_once : (κs : _) (args : _) (r r' : _) (exit exit' : _) → mode-by.Learnt κs args r exit → mode-by.Learnt κs args r' exit' → r ≡ r'
mode_by_once κs args r r' exit exit' = no_second_answer

pub reading_by_once : (κs : _) (args : _) (r r' : _) (exit exit' : _) → reading-by.Learnt κs args r exit → reading-by.Learnt κs args r' exit' → r ≡ r'
reading_by_once κs args r r' exit exit' = no_second_answer

pub applied_to_once : (κs : _) (args : _) (r r' : _) (exit exit' : _) → applied-to.Learnt κs args r exit → applied-to.Learnt κs args r' exit' → r ≡ r'
applied_to_once κs args r r' exit exit' = no_second_answer

pub payloads_from_once : (κs : _) (args : _) (r r' : _) (exit exit' : _) → payloads-from.Learnt κs args r exit → payloads-from.Learnt κs args r' exit' → r ≡ r'
payloads_from_once κs args r r' exit exit' = no_second_answer

pub tables_from_once : (κs : _) (args : _) (r r' : _) (exit exit' : _) → tables-from.Learnt κs args r exit → tables-from.Learnt κs args r' exit' → r ≡ r'
tables_from_once κs args r r' exit exit' = no_second_answer

pub reading_from_once : (κs : _) (args : _) (r r' : _) (exit exit' : _) → reading-from.Learnt κs args r exit → reading-from.Learnt κs args r' exit' → r ≡ r'
reading_from_once κs args r r' exit exit' = no_second_answer
