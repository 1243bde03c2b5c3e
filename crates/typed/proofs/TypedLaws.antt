-- The laws of a typed number: what its next byte makes of the value so far. Assumes nothing.
use Rattle.std.proofs.Common.{◌≡◌, ℕ, ◌+◌, ◌*◌, ◌^◌, ◌≤◌, ◌<◌, min, List, length, get_or, drop, arith, add-one, lt-ltb, le-ltb, drop-cons, drop_of_length-le, Some, None}
use Rattle.std.proofs.lemmas.Bool.Decides.{nat_tests}
use Rattle.std.specs.Char.{digit_value}
use Rattle.typed.specs.TypedNumbers.{between, hex_value, value_from}

-- a byte's value as a digit of any base up to 36 says which hex digit it is, if one
pub digit_is : (byte : ℕ) → hex_value byte ≡ min (digit_value byte) 16
unfolding hex_value between
digit_is byte = grind (arith, nat_tests)

module _ (base value : ℕ) (digits : List ℕ) (i : ℕ) (small : base ≤ 16) (h : i < length digits) where
  -- one more digit
  pub next_digit : (digit : ℕ) → digit ≡ digit_value (get_or digits i 0) → digit < base → value * base + digit < 2 ^ 64
      → value_from base (value * base + digit) (drop (i + 1) digits) ≡ value_from base value (drop i digits)
  unfolding value_from
  next_digit digit e l f =
      let d : hex_value (get_or digits i 0) ≡ digit = omega (arith, digit_is (get_or digits i 0)) in
      rw (add-one, drop-cons digits i 0 h, d) (simp (lt-ltb digit base l, lt-ltb (value * base + digit) (2 ^ 64) f))

  -- a byte that is no digit
  pub no_digit : base ≤ digit_value (get_or digits i 0) → None ≡ value_from base value (drop i digits)
  unfolding value_from
  no_digit l =
      let d : base ≤ hex_value (get_or digits i 0) = omega (arith, digit_is (get_or digits i 0)) in
      rw (drop-cons digits i 0 h) (simp (le-ltb (hex_value (get_or digits i 0)) base d))

  -- a number of more than 64 bits
  pub too_large : (digit : ℕ) → digit ≡ digit_value (get_or digits i 0) → digit < base → 2 ^ 64 ≤ value * base + digit → None ≡ value_from base value (drop i digits)
  unfolding value_from
  too_large digit e l f =
      let d : hex_value (get_or digits i 0) ≡ digit = omega (arith, digit_is (get_or digits i 0)) in
      rw (drop-cons digits i 0 h, d) (simp (lt-ltb digit base l, le-ltb (value * base + digit) (2 ^ 64) f))

-- the end of the digits
pub no_more : (base value : ℕ) (digits : List ℕ) (i : ℕ) → length digits ≤ i → Some value ≡ value_from base value (drop i digits)
unfolding value_from
no_more base value digits i h = rw (drop_of_length-le digits h)
