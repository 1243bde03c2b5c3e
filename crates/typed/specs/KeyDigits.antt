-- The 16 hex digits of a key, by place: 0 is the leftmost, 15 the rightmost. Assumes nothing.
use Rattle.std.specs.Prelude.{ℕ, ◌-◌, ◌*◌, ◌/◌, ◌%◌, ◌^◌, Bool, false, not, cond, ltb, eqb}

-- the digit at a place is four bits, from bit 4 * (15 - place) up; past the 16 places it is 0
unfoldable pub digit_at : ℕ → ℕ → ℕ
digit_at key place = cond (ltb place 16) (key / 2 ^ (4 * (15 - place)) % 16) 0

-- bits 56 to 63 are the digits at places 0 and 1, and bits 36 to 39 the digit at place 6: these never count
unfoldable pub digit_counts : ℕ → Bool
digit_counts place = cond (ltb place 2) false (cond (eqb place 6) false (ltb place 16))

-- two keys have different digits at a place
unfoldable pub digits_differ : ℕ → ℕ → ℕ → Bool
digits_differ first second place = not (eqb (digit_at first place) (digit_at second place))
