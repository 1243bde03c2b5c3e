-- A recorded list: its lines, the fields of a line, and what a field stands for.
use Rattle.std.specs.Prelude.{Option, None, Some, ℕ, suc, ◌+◌, ◌-◌, ◌*◌, ◌/◌, ◌%◌, min, List, [], ◌∷◌, ◌++◌, Bool, true, false, cond, ◌&&◌, length, take, drop, leb, ltb, eqb}
use Rattle.laws.specs.Lists.{tab, at}

-- the bytes of the first line, its LF among them; all bytes where no LF ends it
unfoldable pub line_length : List ℕ → ℕ
line_length [] = 0
line_length (x ∷ xs) = suc (cond (eqb x 0x0A) 0 (line_length xs))

-- the place after the line that starts at a place
abbrev pub next_line : List ℕ → ℕ → ℕ
next_line list p = p + line_length (drop p list)

-- where the rest of a line starts: nothing is left at byte 0 where the line ends before the place
abbrev pub rest_start : List ℕ → ℕ → ℕ
rest_start line p = cond (ltb (length line) p) 0 p

-- LF is the last byte
abbrev pub ends_in_line : List ℕ → Bool
ends_in_line list = eqb (at list (length list - 1)) 0x0A

-- a letter and a space come first
abbrev pub is_marked : List ℕ → ℕ → Bool
is_marked line letter = eqb (at line 1) 0x20 && eqb (at line 0) letter

-- the bytes before the first space; all where there is none
unfoldable pub gap_in : List ℕ → ℕ
gap_in [] = 0
gap_in (x ∷ xs) = cond (eqb x 0x20) 0 (suc (gap_in xs))

-- the value of a digit, `0` to `9` or `a` to `f`; of any other byte, 16
unfoldable pub digit_value : ℕ → ℕ
digit_value byte =
    cond (leb 0x30 byte && leb byte 0x39) (byte - 0x30)
    (cond (leb 0x61 byte && leb byte 0x66) (byte - 0x61 + 10) 16)

-- every byte is a digit
unfoldable pub is_digits : List ℕ → Bool
is_digits [] = true
is_digits (x ∷ xs) = cond (eqb (digit_value x) 16) false (is_digits xs)

-- two digits for each of at most so many bytes
abbrev pub is_hex : List ℕ → ℕ → Bool
is_hex text most = eqb (length text % 2) 0 && (leb (length text / 2) most && is_digits text)

-- the byte that two digits stand for; what is no digit counts as 0
abbrev pub byte_of : ℕ → ℕ → ℕ
byte_of high low = digit_value high % 16 * 16 + digit_value low % 16

-- the bytes that a text stands for, two digits each
abbrev pub decoded : List ℕ → List ℕ
decoded text = tab (λ i. byte_of (at text (2 * i)) (at text (2 * i + 1))) (length text / 2)

-- as many of them as a buffer has room for
abbrev pub decoded_count : List ℕ → List ℕ → ℕ
decoded_count text bytes = min (length text / 2) (length bytes)

-- these, then what stood in the buffer
abbrev pub decoded_into : List ℕ → List ℕ → List ℕ
decoded_into text bytes = take (decoded_count text bytes) (decoded text) ++ drop (decoded_count text bytes) bytes

-- the number that decimal digits write after a number; none where one is no such digit, or the number passes 2^32 - 1
unfoldable pub number_from : ℕ → List ℕ → Option ℕ
number_from n [] = Some n
number_from n (x ∷ xs) =
    cond (ltb 9 (digit_value x)) None
    (cond (ltb 0xFFFFFFFF (n * 10 + digit_value x)) None
    (number_from (n * 10 + digit_value x) xs))

-- the number that a text writes, which is not empty
abbrev pub number_of : List ℕ → Option ℕ
number_of text = cond (eqb (length text) 0) None (number_from 0 text)

-- where the field starts that comes after the one at a place: past the space after it, or at the line's end
abbrev pub after_field : List ℕ → ℕ → ℕ
after_field line p = min (length line) (p + gap_in (drop p line) + 1)

-- the number that the field at a place writes
abbrev pub number_in : List ℕ → ℕ → Option ℕ
number_in line p = number_of (take (gap_in (drop p line)) (drop p line))
