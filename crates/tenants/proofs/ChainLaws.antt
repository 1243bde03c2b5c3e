-- What the library's chains give, in the words of specs/Tenants.antt. Assumes nothing.
use Rattle.std.proofs.Common.{◌≡◌, ℕ, ◌+◌, ◌≤◌, min, Bool, true, false, cond, Option, Some, List, [], ◌∷◌, count_by, find, filter, fold, unwrap_or, map, refl, ap, ◌∙◌, ◌||◌, zero-add, arith}
use Rattle.std.specs.List.{list_any}
use Rattle.std.specs.Prelude.{ltb}
use borrow.Author.Tests.{lt-ltb}
use Rattle.std.proofs.lemmas.List.Recursion.{is_count_by}
use Rattle.tenants.specs.Tenants.{number_in, counted, lowest, first_of}

pub at_most_one : (b : Bool) → cond b 1 0 ≤ 1
at_most_one true = omega arith
at_most_one false = omega arith

one_more : (b : Bool) (n : ℕ) → cond b 1 0 + n ≡ cond b (1 + n) n
one_more true n = refl
one_more false n = omega arith

module _ (test : List ℕ → Bool) where
  pub counted_is : (tenants : List (List ℕ)) → counted test tenants ≡ count_by test tenants
  unfolding counted
  counted_is tenants = is_count_by (counted test) test refl (λ t ts. one_more (test t) (counted test ts)) tenants

  found_or : (b : Bool) (t : List ℕ) (rest : Option (List ℕ)) (d : List ℕ) → cond b t (unwrap_or rest d) ≡ unwrap_or (cond b (Some t) rest) d
  found_or true t rest d = refl
  found_or false t rest d = refl

  pub first_of_is : (tenants : List (List ℕ)) → first_of test tenants ≡ unwrap_or (find test tenants) (0 ∷ 0 ∷ [])
  unfolding first_of
  first_of_is [] = refl
  first_of_is (t ∷ ts) = ap (cond (test t) t) (first_of_is ts) ∙ found_or (test t) t (find test ts) (0 ∷ 0 ∷ [])

  any_of : (b : Bool) (n : ℕ) (rest : Bool) → ltb 0 n ≡ rest → ltb 0 (cond b 1 0 + n) ≡ b || rest
  any_of true n rest e = lt-ltb 0 (1 + n) (omega arith)
  any_of false n rest e = rw zero-add e

  pub some_is : (tenants : List (List ℕ)) → ltb 0 (counted test tenants) ≡ list_any test tenants
  unfolding counted
  some_is [] = refl
  some_is (t ∷ ts) = any_of (test t) (counted test ts) (list_any test ts) (some_is ts)

  -- the numbers that a test picks are no higher than the one that is given
  lowest_below : (number : ℕ) (tenants : List (List ℕ)) → lowest test number tenants ≤ number
  unfolding lowest
  lowest_below number [] = omega arith
  lowest_below number (t ∷ ts) = omega (arith, lowest_below number ts)

  lowest_by : (b : Bool) (number least : ℕ) (t : List ℕ) (ts : List (List ℕ)) → least ≤ number
      → ((low : ℕ) → low ≤ number → min low (lowest test number ts) ≡ fold min low (map number_in (filter test ts)))
      → min least (min (cond b (number_in t) number) (lowest test number ts)) ≡ fold min least (map number_in (cond b (t ∷ filter test ts) (filter test ts)))
  lowest_by true number least t ts h rest =
      let e : min least (min (number_in t) (lowest test number ts)) ≡ min (min least (number_in t)) (lowest test number ts) = omega arith in
      e ∙ rest (min least (number_in t)) (omega arith)
  lowest_by false number least t ts h rest =
      let e : min least (min number (lowest test number ts)) ≡ min least (lowest test number ts) = omega arith in
      e ∙ rest least h

  lowest_folds : (number least : ℕ) (tenants : List (List ℕ)) → least ≤ number → min least (lowest test number tenants) ≡ fold min least (map number_in (filter test tenants))
  unfolding lowest
  lowest_folds number least [] h = omega arith
  lowest_folds number least (t ∷ ts) h = lowest_by (test t) number least t ts h (λ low l. lowest_folds number low ts l)

  pub lowest_is : (number : ℕ) (tenants : List (List ℕ)) → lowest test number tenants ≡ fold min number (map number_in (filter test tenants))
  lowest_is number tenants =
      let e : lowest test number tenants ≡ min number (lowest test number tenants) = omega (arith, lowest_below number tenants) in
      e ∙ lowest_folds number number tenants (omega arith)
