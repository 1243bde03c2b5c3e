-- Numbers and bytes as text: digits, the most significant first. A digit above 9 is a lower-case letter.
use Rattle.std.specs.Prelude.{ℕ, zero, suc, ◌-◌, ◌/◌, ◌%◌, min, cond, ◌&&◌, List, [], ◌∷◌, ◌++◌, ltb, leb}
use Rattle.io.specs.Digits.{hex_digit_ascii}

-- the digits of n: no zeros in front, but for those up to `least` digits. There are at most k
unfoldable pub digits_for : ℕ → ℕ → ℕ → ℕ → List ℕ
digits_for base zero least n = []
digits_for base (suc k) least n = cond (ltb n base && leb least 1) (hex_digit_ascii n ∷ []) (digits_for base k (least - 1) (n / base) ++ (hex_digit_ascii (n % base) ∷ []))

-- every number of 64 bits has at most 20 decimal digits
unfoldable pub decimal : ℕ → List ℕ
decimal n = digits_for 10 20 1 n

-- and at most 16 hex digits. `width` is the fewest that are written; of a width above 16, 16 count
unfoldable pub hex : ℕ → ℕ → List ℕ
hex width n = digits_for 16 16 (min width 16) n

-- two hex digits for each byte
unfoldable pub hex_bytes : List ℕ → List ℕ
hex_bytes [] = []
hex_bytes (byte ∷ bytes) = (hex_digit_ascii (byte / 16) ∷ hex_digit_ascii (byte % 16) ∷ []) ++ hex_bytes bytes
