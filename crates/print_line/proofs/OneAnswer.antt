-- No second answer meets a contract of this crate: what a caller learns makes two lines equal. Assumes nothing.
use Rattle.std.proofs.Common.{◌≡◌}
use Rattle.laws.proofs.OneAnswer.{no_second_answer}
use Rattle.print_line.proofs.empty.Reads as empty
use Rattle.print_line.proofs.Line.word.Reads as word
use Rattle.print_line.proofs.Line.hex_bytes.Reads as hex-bytes
use Rattle.print_line.proofs.Line.hex.Reads as hex
use Rattle.print_line.proofs.Line.decimal.Reads as decimal

pub empty_once : (κs : _) (args : _) (r r' : _) (exit exit' : _) → empty.Learnt κs args r exit → empty.Learnt κs args r' exit' → r ≡ r'
empty_once κs args r r' exit exit' = no_second_answer

pub word_once : (κs : _) (args : _) (r r' : _) (exit exit' : _) → word.Learnt κs args r exit → word.Learnt κs args r' exit' → r ≡ r'
word_once κs args r r' exit exit' = no_second_answer

pub hex_bytes_once : (κs : _) (args : _) (r r' : _) (exit exit' : _) → hex-bytes.Learnt κs args r exit → hex-bytes.Learnt κs args r' exit' → r ≡ r'
hex_bytes_once κs args r r' exit exit' = no_second_answer

pub hex_once : (κs : _) (args : _) (r r' : _) (exit exit' : _) → hex.Learnt κs args r exit → hex.Learnt κs args r' exit' → r ≡ r'
hex_once κs args r r' exit exit' = no_second_answer

pub decimal_once : (κs : _) (args : _) (r r' : _) (exit exit' : _) → decimal.Learnt κs args r exit → decimal.Learnt κs args r' exit' → r ≡ r'
decimal_once κs args r r' exit exit' = no_second_answer
