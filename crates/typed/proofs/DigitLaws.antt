-- The laws of a key's digits: numbers with the same digits have the same low bits, and the other way round. Assumes nothing.
use Rattle.std.proofs.Common.{◌≡◌, refl, sym, ap, ◌∙◌, Bool, true, false, cond, ℕ, zero, suc, ◌+◌, ◌-◌, ◌*◌, ◌/◌, ◌%◌, ◌^◌, ◌≤◌, ◌<◌, arith, mod-lt, lt-ltb, le-ltb, ne_eqb, ltb-true, ltb-false, ltb, eqb, pow_pos, pow-add}
use mathlib.Core.Bool.{false≢true}
use native.Mathlib.Nat.{mod-one, div-div-eq-div-mul}
use borrow.Author.Tests.{eqb-false}
use lib.Arith.{digits_div}
use lib.Pow.{mod-pow-add, mod-mod-pow}
use Rattle.typed.specs.KeyDigits.{digit_at, digit_counts}

-- the four bits from bit 4 * j up: the digit j places from the right
abbrev pub nibble : ℕ → ℕ → ℕ
nibble n j = n / 2 ^ (4 * j) % 16

-- i digits and the low 4 * i bits show each other
pub same_low : (i n m : ℕ) → ((j : ℕ) → j < i → nibble n j ≡ nibble m j) → n % 2 ^ (4 * i) ≡ m % 2 ^ (4 * i)
same_low zero n m h = mod-one n ∙ sym (mod-one m)
same_low (suc i) n m h =
    let e : 4 * suc i ≡ 4 + 4 * i = omega arith in
    rw (e, mod-pow-add n 4 (4 * i), mod-pow-add m 4 (4 * i), h i (omega arith), same_low i n m (λ j l. h j (omega arith)))

top_digit : (n k : ℕ) → n % 2 ^ (4 + k) / 2 ^ k ≡ n / 2 ^ k % 16
top_digit n k = rw (mod-pow-add n 4 k) (digits_div (n / 2 ^ k % 16) (mod-lt n (pow_pos k)))

pub same_digit : (i n m j : ℕ) → j < i → n % 2 ^ (4 * i) ≡ m % 2 ^ (4 * i) → nibble n j ≡ nibble m j
same_digit i n m j h e =
    let above : 4 * i ≡ 4 * (i - j - 1) + (4 + 4 * j) = omega arith in
    let low : n % 2 ^ (4 + 4 * j) ≡ m % 2 ^ (4 + 4 * j) =
    sym (mod-mod-pow n (4 * (i - j - 1)) (4 + 4 * j))
    ∙ ap (λ (x : ℕ). x % 2 ^ (4 + 4 * j)) (rw above at e)
    ∙ mod-mod-pow m (4 * (i - j - 1)) (4 + 4 * j)
    in
    sym (top_digit n (4 * j)) ∙ ap (λ (x : ℕ). x / 2 ^ (4 * j)) low ∙ top_digit m (4 * j)

-- the digit j places from the right stands at place 15 - j
pub nibble_at : (key j : ℕ) → j < 16 → digit_at key (15 - j) ≡ nibble key j
unfolding digit_at
nibble_at key j h =
    let back : 15 - (15 - j) ≡ j = omega arith in
    simp (lt-ltb (15 - j) 16 (omega arith), back)

pub at_nibble : (key place : ℕ) → place < 16 → digit_at key place ≡ nibble key (15 - place)
unfolding digit_at
at_nibble key place h = simp (lt-ltb place 16 h)

-- the digits from bit 40 up are those of key / 2 ^ 40
pub upper_digit : (key j : ℕ) → nibble key (10 + j) ≡ nibble (key / 2 ^ 40) j
upper_digit key j =
    let e : 4 * (10 + j) ≡ 40 + 4 * j = omega arith in
    ap (λ (x : ℕ). x % 16) (ap (λ (x : ℕ). key / 2 ^ x) e ∙ ap (λ (x : ℕ). key / x) (pow-add 2 40 (4 * j)) ∙ sym (div-div-eq-div-mul key (2 ^ 40) (2 ^ (4 * j))))

-- the places that may count
pub other_places : (place : ℕ) → 2 ≤ place → (place ≡ 6 → ⊥) → digit_counts place ≡ ltb place 16
unfolding digit_counts
other_places place h l = simp (le-ltb place 2 h, ne_eqb place 6 l)

-- a place that counts, and back
pub record Counting (place : ℕ) : Type 0 where
  pub from_2 : 2 ≤ place
  pub not_6 : place ≡ 6 → ⊥
  pub below_16 : place < 16

counting_by : (place : ℕ) (t u v : Bool) → ltb place 2 ≡ t → eqb place 6 ≡ u → ltb place 16 ≡ v → cond t false (cond u false v) ≡ true → Counting place
counting_by place true u v a b c e = absurd (false≢true e)
counting_by place false true v a b c e = absurd (false≢true e)
counting_by place false false false a b c e = absurd (false≢true e)
counting_by place false false true a b c e =
    record { from_2 = ltb-false place 2 a; not_6 = eqb-false place 6 b; below_16 = ltb-true place 16 c }

pub counting : (place : ℕ) → digit_counts place ≡ true → Counting place
unfolding digit_counts
counting place e = counting_by place (ltb place 2) (eqb place 6) (ltb place 16) refl refl refl e

pub counted : (place : ℕ) → Counting place → digit_counts place ≡ true
counted place h = other_places place h.from_2 h.not_6 ∙ lt-ltb place 16 h.below_16
