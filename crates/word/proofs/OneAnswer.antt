-- No second answer meets a contract of this crate: what a caller learns makes two results one. Assumes nothing.
use Rattle.std.proofs.Common.{◌≡◌}
use Rattle.laws.proofs.OneAnswer.{no_second_answer}
use Rattle.word.proofs.left_from.Reads as left-from
use Rattle.word.proofs.read8.Reads as read8
use Rattle.word.proofs.read16.Reads as read16
use Rattle.word.proofs.read32.Reads as read32
use Rattle.word.proofs.read64.Reads as read64
use Rattle.word.proofs.padding.Reads as padding
use Rattle.word.proofs.bytes32.Reads as bytes32

pub left_from_once : (κs : _) (args : _) (r r' : _) (exit exit' : _) → left-from.Learnt κs args r exit → left-from.Learnt κs args r' exit' → r ≡ r'
left_from_once κs args r r' exit exit' = no_second_answer

pub read8_once : (κs : _) (args : _) (r r' : _) (exit exit' : _) → read8.Learnt κs args r exit → read8.Learnt κs args r' exit' → r ≡ r'
read8_once κs args r r' exit exit' l l' = no_second_answer l.0 l'.0

pub read16_once : (κs : _) (args : _) (r r' : _) (exit exit' : _) → read16.Learnt κs args r exit → read16.Learnt κs args r' exit' → r ≡ r'
read16_once κs args r r' exit exit' l l' = no_second_answer l.0 l'.0

pub read32_once : (κs : _) (args : _) (r r' : _) (exit exit' : _) → read32.Learnt κs args r exit → read32.Learnt κs args r' exit' → r ≡ r'
read32_once κs args r r' exit exit' l l' = no_second_answer l.0 l'.0

pub read64_once : (κs : _) (args : _) (r r' : _) (exit exit' : _) → read64.Learnt κs args r exit → read64.Learnt κs args r' exit' → r ≡ r'
read64_once κs args r r' exit exit' = no_second_answer

pub padding_once : (κs : _) (args : _) (r r' : _) (exit exit' : _) → padding.Learnt κs args r exit → padding.Learnt κs args r' exit' → r ≡ r'
padding_once κs args r r' exit exit' = no_second_answer

pub bytes32_once : (κs : _) (args : _) (r r' : _) (exit exit' : _) → bytes32.Learnt κs args r exit → bytes32.Learnt κs args r' exit' → r ≡ r'
bytes32_once κs args r r' exit exit' = no_second_answer
