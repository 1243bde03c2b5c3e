-- One step of each loop over a text, at byte i of it, and the end. Assumes nothing.
use Rattle.std.proofs.Common.{◌≡◌, ap, List, true, false, None, Some, ℕ, suc, ◌+◌, ◌*◌, ◌≤◌, ◌<◌, add-one, length, drop, drop_of_length-le, drop-cons, eq-eqb, lt-ltb, le-ltb}
use borrow.Author.Tests.{ne_eqb}
use Rattle.laws.specs.Lists.{at}
use Rattle.gate_fields.specs.Fields.{line_length, gap_in, digit_value, is_digits, number_from}

module _ (text : List ℕ) (i : ℕ) where
  module _ (there : i < length text) where
    pub line_ends : at text i ≡ 0x0A → line_length (drop i text) ≡ 1
    unfolding line_length
    line_ends e = rw (drop-cons text i 0 there, eq-eqb _ _ e)

    pub line_goes_on : (at text i ≡ 0x0A → ⊥) → line_length (drop i text) ≡ suc (line_length (drop (i + 1) text))
    unfolding line_length
    line_goes_on e = rw (add-one, drop-cons text i 0 there, ne_eqb _ _ e)

    pub gap_here : at text i ≡ 0x20 → gap_in (drop i text) ≡ 0
    unfolding gap_in
    gap_here e = rw (drop-cons text i 0 there, eq-eqb _ _ e)

    pub gap_later : (at text i ≡ 0x20 → ⊥) → gap_in (drop i text) ≡ suc (gap_in (drop (i + 1) text))
    unfolding gap_in
    gap_later e = rw (add-one, drop-cons text i 0 there, ne_eqb _ _ e)

    pub no_digit : digit_value (at text i) ≡ 16 → is_digits (drop i text) ≡ false
    unfolding is_digits
    no_digit e = rw (drop-cons text i 0 there, eq-eqb _ _ e)

    pub digit : (digit_value (at text i) ≡ 16 → ⊥) → is_digits (drop i text) ≡ is_digits (drop (i + 1) text)
    unfolding is_digits
    digit e = rw (add-one, drop-cons text i 0 there, ne_eqb _ _ e)

    module _ (n : ℕ) where
      pub no-decimal : 9 < digit_value (at text i) → number_from n (drop i text) ≡ None
      unfolding number_from
      no-decimal h = rw (drop-cons text i 0 there, lt-ltb _ _ h)

      module _ (decimal : digit_value (at text i) ≤ 9) where
        pub too_large : 0xFFFFFFFF < n * 10 + digit_value (at text i) → number_from n (drop i text) ≡ None
        unfolding number_from
        too_large h = rw (drop-cons text i 0 there, le-ltb _ _ decimal, lt-ltb _ _ h)

        pub goes_on : n * 10 + digit_value (at text i) ≤ 0xFFFFFFFF → number_from n (drop i text) ≡ number_from (n * 10 + digit_value (at text i)) (drop (i + 1) text)
        unfolding number_from
        goes_on h = rw (add-one, drop-cons text i 0 there, le-ltb _ _ decimal, le-ltb _ _ h)

  module _ (over : length text ≤ i) where
    pub no_line : line_length (drop i text) ≡ 0
    unfolding line_length
    no_line = ap line_length (drop_of_length-le text over)

    pub no_gap : gap_in (drop i text) ≡ 0
    unfolding gap_in
    no_gap = ap gap_in (drop_of_length-le text over)

    pub all_digits : is_digits (drop i text) ≡ true
    unfolding is_digits
    all_digits = ap is_digits (drop_of_length-le text over)

    pub written : (n : ℕ) → number_from n (drop i text) ≡ Some n
    unfolding number_from
    written n = ap (number_from n) (drop_of_length-le text over)
