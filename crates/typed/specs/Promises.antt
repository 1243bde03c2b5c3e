-- What can be relied on about two keys. Each is proved under the same name in proofs/Promises.antt.
use Rattle.std.specs.Prelude.{◌≡◌, true, false, ◌↔◌, ℕ}
use Rattle.key.specs.CountingBits.{counting_bits}
use Rattle.typed.specs.declared.Verdict.{Verdict}
use Rattle.typed.specs.KeyDigits.{digit_at, digit_counts, digits_differ}
use Rattle.typed.specs.Verdicts.{verdict_on, Says, says_same}

-- "Two keys have the same counting bits exactly when they have the same digit at every place that counts."
abbrev pub CountingDigits : Type 0
CountingDigits =
    (first second : ℕ) →
    (counting_bits first ≡ counting_bits second)
    ↔ ((place : ℕ) → digit_counts place ≡ true → digit_at first place ≡ digit_at second place)

-- "A verdict is given exactly when what it says holds."
abbrev pub VerdictHolds : Type 0
VerdictHolds = (first second : ℕ) (verdict : Verdict) → (verdict_on first second ≡ verdict) ↔ Says verdict first second

-- "The same streams are told exactly when the counting bits are equal."
abbrev pub SameStreamsTold : Type 0
SameStreamsTold = (first second : ℕ) → (says_same (verdict_on first second) ≡ true) ↔ (counting_bits first ≡ counting_bits second)

-- "The same streams are told exactly when no digit that counts is shown as different."
abbrev pub MarksAgree : Type 0
MarksAgree =
    (first second : ℕ) →
    (says_same (verdict_on first second) ≡ true)
    ↔ ((place : ℕ) → digit_counts place ≡ true → digits_differ first second place ≡ false)
