-- Whether a text ends in the body, told by the body's last zero byte. It serves the contracts of the walk's checks; the rules do not name it.
use Rattle.std.specs.Prelude.{ℕ, zero, suc, List, Bool, true, false, cond, length, eqb, Option, Some, None}
use Rattle.laws.specs.Lists.{at}

abbrev pub is_at : Option ℕ → Bool
is_at (Some z) = true
is_at None = false

-- one past the last zero byte among the first n, or 0
unfoldable pub zeros_to : List ℕ → ℕ → ℕ
zeros_to b zero = 0
zeros_to b (suc n) = cond (eqb (at b n) 0) (suc n) (zeros_to b n)

-- one past the last zero byte of b, or 0
abbrev pub zeros_end : List ℕ → ℕ
zeros_end b = zeros_to b (length b)
