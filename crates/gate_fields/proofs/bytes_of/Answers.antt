-- `gate_fields::bytes_of` meets its contract: where the digits are few enough, all bytes that they stand for are in the buffer. Assumes nothing.
use Rattle.std.proofs.Common.{◌≡◌, ◌≤◌, true, ℕ, ◌/◌, List, length, take, drop, ◌++◌, ◌∙◌, sym, arith}
use Rattle.std.proofs.lemmas.Bool.Decides.{nat_tests}
use Rattle.std.proofs.Math.Seq.{take-length, take-append_seam}
use Rattle.laws.proofs.TabLaws.{tab_length}
use Rattle.gate_fields.specs.Fields.{is_hex, decoded, decoded_count, decoded_into}
use Rattle.gate_fields.proofs.bytes_of.Goals as goal

fits : (text : List ℕ) (room : ℕ) → is_hex text room ≡ true → length text / 2 ≤ room
fits text room h = grind (arith, nat_tests)

first : (d bytes : List ℕ) → take (length d) (take (length d) d ++ drop (length d) bytes) ≡ d
first d bytes = rw take-length (take-append_seam d (drop (length d) bytes))

whole : (text bytes : List ℕ) → length text / 2 ≤ length bytes → take (decoded_count text bytes) (decoded_into text bytes) ≡ decoded text
whole text bytes h =
    let long : length (decoded text) ≡ length text / 2 = tab_length _ _ in
    let count : decoded_count text bytes ≡ length (decoded text) = omega (arith, long) in
    rw count (first (decoded text) bytes)

pub returns : goal.returns
returns c =
    let hex : is_hex c.args.digits.now (length c.args.room.now) ≡ true = sym c.is_hex.ensures ∙ c.if-not-is_hex.false in
    (hex, rw (c.decode-size.ensures.value.0, c.decode-size.ensures.value.1) (whole c.args.digits.now c.args.room.now (fits _ _ hex)))
