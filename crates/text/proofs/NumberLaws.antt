-- The fewest digits that hold a number are those of `digitsFor`: both go on with n / base until it is below the base and there are enough. And how many
-- there are. Assumes nothing.
use Rattle.std.proofs.Common.{◌≡◌, ap, ◌∙◌, Bool, true, false, cond, ◌&&◌, ⊎_elim, List, [], ◌∷◌, ◌++◌, ℕ, zero, suc, ◌-◌, ◌*◌, ◌/◌, ◌%◌, ◌^◌, ◌≤◌, ◌<◌, min, max, pow-suc, mod-eq_of_lt, le-div_iff_mul-le, div-lt_iff_lt-mul, arith, length, length-append, ltb, leb, lt-ltb, le-ltb, le-leb}
use mathlib.Core.Bool.{and-false}
use native.Mathlib.Nat.{pow-zero, pow-le-pow_right}
use borrow.Author.Tests.{lt-leb}
use Rattle.laws.proofs.Side.{side}
use Rattle.io.specs.Digits.{hex_digit_ascii, last_digits, IsDigitCount}
use Rattle.text.specs.Numbers.{digits_for, decimal, hex}

module _ (b : ℕ) (some : 1 < b) where
  pos : 0 < b
  pos = omega arith

  power : (k : ℕ) → b ^ suc k ≡ b ^ k * b
  power k = pow-suc b k

  one : b ^ 1 ≡ b
  one = power 0 ∙ (rw (pow-zero b) (omega arith))

  fewer : (k n : ℕ) → n < b ^ suc k → n / b < b ^ k
  fewer k n h = (div-lt_iff_lt-mul pos).1 (rw (power k) at h)

  more : (k n : ℕ) → b ^ suc k ≤ n → b ^ k ≤ n / b
  more k n h = (le-div_iff_mul-le pos).1 (rw (power k) at h)

  last_digit : (f least n : ℕ) → n < b → least ≤ 1 → digits_for b (suc f) least n ≡ hex_digit_ascii n ∷ []
  unfolding digits_for
  last_digit f least n h l = rw (lt-ltb n b h, le-leb least 1 l)

  more_digits : (f least n : ℕ) → (ltb n b && leb least 1) ≡ false → digits_for b (suc f) least n ≡ digits_for b f (least - 1) (n / b) ++ (hex_digit_ascii (n % b) ∷ [])
  unfolding digits_for
  more_digits f least n e = rw e

  -- suc k digits, of which the first is not 0 where there are more than one and more than enough
  spelt : (k f least n : ℕ) → k < f → n < b ^ suc k → least ≤ suc k → (0 < k → least < suc k → b ^ k ≤ n) → last_digits b (suc k) n ≡ digits_for b f least n
  spelt k zero least n h below enough first = absurd (omega arith)
  spelt zero (suc f) least n h below enough first =
      let low : n < b = rw one at below in
      rw (last_digit f least n low enough, mod-eq_of_lt low)
  spelt (suc k) (suc f) least n h below enough first =
      let test : (ltb n b && leb least 1) ≡ false =
      ⊎_elim (λ (l : 1 < least). ap (λ (t : Bool). ltb n b && t) (lt-leb least 1 l) ∙ and-false (ltb n b))
      (λ (l : least ≤ 1).
      let grown : b ^ 1 ≤ b ^ suc k = pow-le-pow_right pos (omega arith) in
      let large = first (omega arith) (omega arith) in
      let high : b ≤ n = omega (arith, one) in
      ap (λ (t : Bool). t && leb least 1) (le-ltb n b high))
      (side 1 least) in
      rw (more_digits f least n test)
      (ap (λ (front : List ℕ). front ++ (hex_digit_ascii (n % b) ∷ []))
      (spelt k f (least - 1) (n / b) (omega arith) (fewer (suc k) n below) (omega arith) (λ z l. more k n (first (omega arith) (omega arith)))))

  -- no more digits than a larger power has
  few : (f least n r : ℕ) → n < b ^ f → least ≤ f → IsDigitCount b least n r → r ≤ f
  few f least n r h l fewest =
      ⊎_elim (λ (more : f < r).
      let grown : b ^ f ≤ b ^ (r - 1) = pow-le-pow_right pos (omega arith) in
      let needed = fewest.2 (omega arith) in
      omega arith)
      (λ (k : r ≤ f). k) (side f r)

  numeral : (f least n r : ℕ) → n < b ^ f → max least 1 ≤ f → IsDigitCount b (max least 1) n r → last_digits b r n ≡ digits_for b f least n
  numeral f least n zero h l fewest = absurd (omega arith)
  numeral f least n (suc k) h l fewest =
      let e : suc k - 1 ≡ k = omega arith in
      spelt k f least n (few f (max least 1) n (suc k) h l fewest) fewest.1 (omega arith) (λ z y. rw e at (fewest.2 (omega arith)))

  -- ---- how many digits there are

  one_more : (k f least n : ℕ) (t : Bool) → length (digits_for b f (least - 1) (n / b)) ≤ k
      → length (cond t (hex_digit_ascii n ∷ []) (digits_for b f (least - 1) (n / b) ++ (hex_digit_ascii (n % b) ∷ []))) ≤ suc k
  one_more k f least n true h = omega arith
  one_more k f least n false h = simp length-append (omega arith)

  -- no more than are allowed
  allowed : (f least n : ℕ) → length (digits_for b f least n) ≤ f
  unfolding digits_for
  allowed zero least n = omega arith
  allowed (suc f) least n = one_more f f least n (ltb n b && leb least 1) (allowed f (least - 1) (n / b))

  -- no more than hold the number, or are enough
  short : (f k least n : ℕ) → n < b ^ suc k → least ≤ suc k → length (digits_for b f least n) ≤ suc k
  unfolding digits_for
  short zero k least n h l = omega arith
  short (suc f) zero least n h l = let low : n < b = rw one at h in rw (lt-ltb n b low, le-leb least 1 l) (omega arith)
  short (suc f) (suc k) least n h l = one_more (suc k) f least n (ltb n b && leb least 1) (short f k (least - 1) (n / b) (fewer (suc k) n h) (omega arith))

pub decimal_digits : (r n : ℕ) → n < 2 ^ 64 → IsDigitCount 10 1 n r → last_digits 10 r n ≡ decimal n
unfolding decimal
decimal_digits r n h fewest = numeral 10 (omega arith) 20 1 n r (omega arith) (omega arith) fewest

pub hex_digits : (r width n : ℕ) → n < 2 ^ 64 → IsDigitCount 16 (min (max width 1) 16) n r → last_digits 16 r n ≡ hex width n
unfolding hex
hex_digits r width n h fewest =
    let e : min (max width 1) 16 ≡ max (min width 16) 1 = omega arith in
    numeral 16 (omega arith) 16 (min width 16) n r (omega arith) (omega arith) (rw e at fewest)

pub decimal_fits : (n : ℕ) → length (decimal n) ≤ 20
unfolding decimal
decimal_fits n = allowed 10 (omega arith) 20 1 n

pub hex_fits : (width n : ℕ) → length (hex width n) ≤ 16
unfolding hex
hex_fits width n = allowed 16 (omega arith) 16 (min width 16) n

pub decimal_short : (k n : ℕ) → n < 10 ^ suc k → length (decimal n) ≤ suc k
unfolding decimal
decimal_short k n h = short 10 (omega arith) 20 k 1 n h (omega arith)
