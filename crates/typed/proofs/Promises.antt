-- The promises of specs/Promises.antt, each under its name. The counting bits are the low 36 bits of a key, which are its nine
-- digits from the right, and 16 bits from bit 40 up, which are four digits more. Assumes nothing.
use Rattle.std.proofs.Common.{◌≡◌, refl, sym, ap, ◌∙◌, subst, Bool, true, false, cond, ℕ, ◌+◌, ◌-◌, ◌/◌, ◌^◌, ◌≤◌, ◌<◌, arith, eq-eqb, ne_eqb, eqb-true, eqb}
use mathlib.Core.Bool.{false≢true}
use native.Mathlib.Decide.{dec_le}
use borrow.Author.Tests.{eqb-false, not-false}
use Rattle.key.specs.CountingBits.{AgreeWhereItCounts, counting_bits}
use Rattle.key.proofs.KeyBits.{one_number}
use Rattle.typed.specs.declared.Verdict.{Verdict}
use Rattle.typed.specs.declared.Verdict.TheVariants.{SameKey, SameStreams, StreamsCanDiffer}
use Rattle.typed.specs.KeyDigits.{digit_at, digit_counts, digits_differ}
use Rattle.typed.specs.Verdicts.{verdict_on, Says, says_same}
use Rattle.typed.specs.Promises as promised
use Rattle.typed.proofs.DigitLaws.{same_low, same_digit, nibble, nibble_at, at_nibble, upper_digit, Counting, counting, counted}

-- a place from 7 on lies in the low part, one up to 5 in the high part
place_digit : (first second place : ℕ) → AgreeWhereItCounts first second → Counting place → Dec (7 ≤ place) → digit_at first place ≡ digit_at second place
place_digit first second place p h (yes right) =
    at_nibble first place h.below_16 ∙ same_digit 9 first second (15 - place) (omega arith) p.bits_0_to_35
    ∙ sym (at_nibble second place h.below_16)
place_digit first second place p h (no left) =
    let e : 15 - place ≡ 10 + (5 - place) = omega (arith, h.not_6) in
    let upper : (key : ℕ) → digit_at key place ≡ nibble (key / 2 ^ 40) (5 - place) =
    λ key. at_nibble key place h.below_16 ∙ ap (nibble key) e ∙ upper_digit key (5 - place)
    in
    upper first ∙ same_digit 4 (first / 2 ^ 40) (second / 2 ^ 40) (5 - place) (omega (arith, h.from_2)) p.bits_40_to_55 ∙ sym (upper second)

abbrev SameDigits : ℕ → ℕ → Type 0
SameDigits first second = (place : ℕ) → digit_counts place ≡ true → digit_at first place ≡ digit_at second place

low_digit : (first second : ℕ) → SameDigits first second → (j : ℕ) → j < 9 → nibble first j ≡ nibble second j
low_digit first second same j h =
    sym (nibble_at first j (omega arith))
    ∙ same (15 - j) (counted (15 - j) (record { from_2 = omega arith; not_6 = λ e. omega arith; below_16 = omega arith }))
    ∙ nibble_at second j (omega arith)

high_digit : (first second : ℕ) → SameDigits first second → (j : ℕ) → j < 4 → nibble (first / 2 ^ 40) j ≡ nibble (second / 2 ^ 40) j
high_digit first second same j h =
    sym (upper_digit first j) ∙ sym (nibble_at first (10 + j) (omega arith))
    ∙ same (15 - (10 + j)) (counted (15 - (10 + j)) (record { from_2 = omega arith; not_6 = λ e. omega arith; below_16 = omega arith }))
    ∙ nibble_at second (10 + j) (omega arith) ∙ upper_digit second j

pub CountingDigits : promised.CountingDigits
CountingDigits first second = (
  λ e place counts. place_digit first second place ((one_number first second).1 e) (counting place counts) (dec_le 7 place),
  λ same. (one_number first second).0 (record {
    bits_0_to_35 = same_low 9 first second (low_digit first second same);
    bits_40_to_55 = same_low 4 (first / 2 ^ 40) (second / 2 ^ 40) (high_digit first second same);
  }),
)

says_by : (first second : ℕ) (t u : Bool) → eqb first second ≡ t → eqb (counting_bits first) (counting_bits second) ≡ u → Says (cond t SameKey (cond u SameStreams StreamsCanDiffer)) first second
says_by first second true u e f = eqb-true first second e
says_by first second false true e f = (eqb-false first second e, eqb-true (counting_bits first) (counting_bits second) f)
says_by first second false false e f = eqb-false (counting_bits first) (counting_bits second) f

says : (first second : ℕ) → Says (verdict_on first second) first second
unfolding verdict_on
says first second = says_by first second (eqb first second) (eqb (counting_bits first) (counting_bits second)) refl refl

given : (first second : ℕ) (verdict : Verdict) → Says verdict first second → verdict_on first second ≡ verdict
unfolding verdict_on
given first second SameKey e = simp (eq-eqb first second e)
given first second SameStreams h = simp (ne_eqb first second h.0, eq-eqb (counting_bits first) (counting_bits second) h.1)
given first second StreamsCanDiffer h =
    simp (ne_eqb first second (λ e. h (ap (λ (key : ℕ). counting_bits key) e)), ne_eqb (counting_bits first) (counting_bits second) h)

pub VerdictHolds : promised.VerdictHolds
VerdictHolds first second verdict =
    (λ e. subst (λ (v : Verdict). Says v first second) e (says first second), given first second verdict)

same_bits : (first second : ℕ) (verdict : Verdict) → Says verdict first second → says_same verdict ≡ true → counting_bits first ≡ counting_bits second
same_bits first second SameKey e s = ap (λ (key : ℕ). counting_bits key) e
same_bits first second SameStreams h s = h.1
same_bits first second StreamsCanDiffer h s = absurd (false≢true s)

same_told : (first second : ℕ) (verdict : Verdict) → Says verdict first second → counting_bits first ≡ counting_bits second → says_same verdict ≡ true
same_told first second SameKey h e = refl
same_told first second SameStreams h e = refl
same_told first second StreamsCanDiffer h e = absurd (h e)

pub SameStreamsTold : promised.SameStreamsTold
SameStreamsTold first second = (
  same_bits first second (verdict_on first second) (says first second),
  same_told first second (verdict_on first second) (says first second),
)

not_different : (first second place : ℕ) → digit_at first place ≡ digit_at second place → digits_differ first second place ≡ false
unfolding digits_differ
not_different first second place e = simp (eq-eqb (digit_at first place) (digit_at second place) e)

no_difference : (first second place : ℕ) → digits_differ first second place ≡ false → digit_at first place ≡ digit_at second place
unfolding digits_differ
no_difference first second place e =
    eqb-true (digit_at first place) (digit_at second place) (not-false (eqb (digit_at first place) (digit_at second place)) e)

pub MarksAgree : promised.MarksAgree
MarksAgree first second = (
  λ told place counts. not_different first second place
      ((CountingDigits first second).0 ((SameStreamsTold first second).0 told) place counts),
  λ none. (SameStreamsTold first second).1
      ((CountingDigits first second).1 (λ place counts. no_difference first second place (none place counts))),
)
