-- No second answer meets a contract of this crate: what a caller learns makes two results one. Assumes nothing.
-- Two functions have no line: what `takes_lines` answers rests on a closure, and `bytes_of` does not say where its bytes stand.
use mathlib.Core.Path.{◌≡◌}
use Rattle.laws.proofs.OneAnswer.{no_second_answer}
use Rattle.part.proofs.OneAnswer.{SamePart, one_part}
use Rattle.gate_fields.proofs.next_line.Reads as next-line
use Rattle.gate_fields.proofs.ends_in_line.Reads as ends-in-line
use Rattle.gate_fields.proofs.is_marked.Reads as is-marked
use Rattle.gate_fields.proofs.rest_from.Reads as Rest-from
use Rattle.gate_fields.proofs.gap_in.Reads as gap-in
use Rattle.gate_fields.proofs.is_hex.Reads as is-hex
use Rattle.gate_fields.proofs.decode.Reads as decode
use Rattle.gate_fields.proofs.number_of.Reads as number_of_lem
use Rattle.gate_fields.proofs.after_field.Reads as after-field
use Rattle.gate_fields.proofs.number_in.Reads as number_in

pub next_line_once : (κs : _) (args : _) (r r' : _) (exit exit' : _) → next-line.Learnt κs args r exit → next-line.Learnt κs args r' exit' → r ≡ r'
next_line_once κs args r r' exit exit' l l' = no_second_answer l.0 l'.0

pub ends_in_line_once : (κs : _) (args : _) (r r' : _) (exit exit' : _) → ends-in-line.Learnt κs args r exit → ends-in-line.Learnt κs args r' exit' → r ≡ r'
ends_in_line_once κs args r r' exit exit' = no_second_answer

pub is_marked_once : (κs : _) (args : _) (r r' : _) (exit exit' : _) → is-marked.Learnt κs args r exit → is-marked.Learnt κs args r' exit' → r ≡ r'
is_marked_once κs args r r' exit exit' = no_second_answer

pub rest_from_once : (κs : _) (args : _) (r r' : _) (exit exit' : _) → Rest-from.Learnt κs args r exit → Rest-from.Learnt κs args r' exit' → SamePart r r'
rest_from_once κs args r r' exit exit' = one_part args.0 _ _ r r'

pub gap_in_once : (κs : _) (args : _) (r r' : _) (exit exit' : _) → gap-in.Learnt κs args r exit → gap-in.Learnt κs args r' exit' → r ≡ r'
gap_in_once κs args r r' exit exit' l l' = no_second_answer l.0 l'.0

pub is_hex_once : (κs : _) (args : _) (r r' : _) (exit exit' : _) → is-hex.Learnt κs args r exit → is-hex.Learnt κs args r' exit' → r ≡ r'
is_hex_once κs args r r' exit exit' = no_second_answer

pub decode_once : (κs : _) (args : _) (r r' : _) (exit exit' : _) → decode.Learnt κs args r exit → decode.Learnt κs args r' exit' → (r ≡ r') × (exit.1.0.now ≡ exit'.1.0.now)
decode_once κs args r r' exit exit' l l' = (no_second_answer l.0.0 l'.0.0, no_second_answer l.0.1 l'.0.1)

pub number_of_once : (κs : _) (args : _) (r r' : _) (exit exit' : _) → number_of_lem.Learnt κs args r exit → number_of_lem.Learnt κs args r' exit' → r ≡ r'
number_of_once κs args r r' exit exit' = no_second_answer

pub after_field_once : (κs : _) (args : _) (r r' : _) (exit exit' : _) → after-field.Learnt κs args r exit → after-field.Learnt κs args r' exit' → r ≡ r'
after_field_once κs args r r' exit exit' l l' = no_second_answer l.0 l'.0

pub number_in_once : (κs : _) (args : _) (r r' : _) (exit exit' : _) → number_in.Learnt κs args r exit → number_in.Learnt κs args r' exit' → r ≡ r'
number_in_once κs args r r' exit exit' = no_second_answer
