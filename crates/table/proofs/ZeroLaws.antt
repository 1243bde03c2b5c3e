-- A zero byte stands at or after p exactly where p lies before the end of the zeros. Assumes nothing.
use Rattle.std.specs.Prelude.{Some}
use mathlib.Core.Path.{◌≡◌, refl, sym, ap, ◌∙◌}
use mathlib.Core.List.{List, [], ◌∷◌}
use mathlib.Core.Bool.{Bool, true, false, cond}
use Prim.Native.Nat.{ℕ, zero, suc, ◌+◌, ◌-◌, ◌<◌, ◌≤◌}
use native.Mathlib.Nat.{not-suc-le-zero}
use native.Mathlib.Omega.{arith}
use lib.ListN.{length, get_or, drop, length-drop}
use lib.Seq.{get_or-drop}
use lib.Dec.{eqb, ltb}
use borrow.Author.Tests.{eq-eqb, ne_eqb, lt-ltb, le-ltb, eqb-true, eqb-false, ltb-true, ltb-false}
use Rattle.cell.specs.Parts.{zero_in, end_of}
use Rattle.table.specs.LastZero.{is_at, zeros_to}

-- ---- the search from below

-- a list with a zero has a first one
some_zero : (l : List ℕ) (p i : ℕ) → i < length l → get_or l i 0 ≡ 0 → is_at (zero_in l p) ≡ true
unfolding zero_in
some_zero [] p i h e = absurd (not-suc-le-zero h)
some_zero (x ∷ xs) p zero h e = rw (eq-eqb x 0 e)
some_zero (x ∷ xs) p (suc i) h e = go (eqb x 0) (some_zero xs (suc p) i (omega arith) e)
  where
    go : (t : Bool) → is_at (zero_in xs (suc p)) ≡ true → is_at (cond t (Some p) (zero_in xs (suc p))) ≡ true
    go true w = refl
    go false w = w

-- a list with none has no first one
no_zero : (l : List ℕ) (p : ℕ) → ((i : ℕ) → i < length l → get_or l i 0 ≡ 0 → ⊥) → is_at (zero_in l p) ≡ false
unfolding zero_in
no_zero [] p f = refl
no_zero (x ∷ xs) p f =
    ap (λ (t : Bool). is_at (cond t (Some p) (zero_in xs (suc p)))) (ne_eqb x 0 (f zero (omega arith)))
    ∙ no_zero xs (suc p) (λ i h e. f (suc i) (omega arith) e)

-- ---- the end, from above

module _ (b : List ℕ) where
  -- one byte down
  pub end_here : (n : ℕ) → 0 < n → get_or b (n - 1) 0 ≡ 0 → zeros_to b n ≡ n
  unfolding zeros_to
  end_here zero h e = absurd (not-suc-le-zero h)
  end_here (suc n) h e =
      let one : n ≡ suc n - 1 = omega arith in
      rw (eq-eqb (get_or b n 0) 0 (ap (λ (m : ℕ). get_or b m 0) one ∙ e))

  pub end_below : (n : ℕ) → 0 < n → (get_or b (n - 1) 0 ≡ 0 → ⊥) → zeros_to b n ≡ zeros_to b (n - 1)
  unfolding zeros_to
  end_below zero h e = absurd (not-suc-le-zero h)
  end_below (suc n) h e =
      let one : suc n - 1 ≡ n = omega arith in
      rw (ne_eqb (get_or b n 0) 0 (λ f. e (ap (λ (m : ℕ). get_or b m 0) one ∙ f))) (ap (zeros_to b) (sym one))

  pub end_none : (n : ℕ) → n ≤ 0 → zeros_to b n ≡ 0
  unfolding zeros_to
  end_none zero h = refl
  end_none (suc n) h = absurd (not-suc-le-zero h)

  -- what stands before the end, and what does not after it
  last_is_zero : (n p : ℕ) → p < zeros_to b n → (zeros_to b n ≤ n) × (get_or b (zeros_to b n - 1) 0 ≡ 0)
  unfolding zeros_to
  last_is_zero zero p h = absurd (not-suc-le-zero h)
  last_is_zero (suc n) p h = go (eqb (get_or b n 0) 0) refl h (last_is_zero n p)
    where
      go : (t : Bool) → eqb (get_or b n 0) 0 ≡ t → p < cond t (suc n) (zeros_to b n) → (p < zeros_to b n → (zeros_to b n ≤ n) × (get_or b (zeros_to b n - 1) 0 ≡ 0)) → (cond t (suc n) (zeros_to b n) ≤ suc n) × (get_or b (cond t (suc n) (zeros_to b n) - 1) 0 ≡ 0)
      go true e k w =
          let one : suc n - 1 ≡ n = omega arith in
          (omega arith, ap (λ (m : ℕ). get_or b m 0) one ∙ eqb-true (get_or b n 0) 0 e)
      go false e k w = let v = w k in (omega arith, v.1)

  none_after : (n i : ℕ) → zeros_to b n ≤ i → i < n → get_or b i 0 ≡ 0 → ⊥
  unfolding zeros_to
  none_after zero i h k e = not-suc-le-zero k
  none_after (suc n) i h k e = go (eqb (get_or b n 0) 0) refl h (none_after n i)
    where
      below : (i ≡ n → ⊥) → i < n
      below w = omega arith

      go : (t : Bool) → eqb (get_or b n 0) 0 ≡ t → cond t (suc n) (zeros_to b n) ≤ i → (zeros_to b n ≤ i → i < n → get_or b i 0 ≡ 0 → ⊥) → ⊥
      go true f g w = omega arith
      go false f g w = w g (below (λ j. eqb-false (get_or b n 0) 0 f (ap (λ (m : ℕ). get_or b m 0) (sym j) ∙ e))) e

-- ---- the law: a zero byte stands at or after p exactly where p lies before the end

module _ (b : List ℕ) (p : ℕ) where
  pub zero_after : p < zeros_to b (length b) → is_at (zero_in (drop p b) p) ≡ true
  zero_after h =
      let w = last_is_zero b (length b) p h in
      let z : p + (zeros_to b (length b) - 1 - p) ≡ zeros_to b (length b) - 1 = omega arith in
      some_zero (drop p b) p (zeros_to b (length b) - 1 - p) (omega (arith, length-drop p b, w))
      (get_or-drop p b (zeros_to b (length b) - 1 - p) 0 ∙ ap (λ (m : ℕ). get_or b m 0) z ∙ w.1)

  pub zero_not_after : zeros_to b (length b) ≤ p → is_at (zero_in (drop p b) p) ≡ false
  zero_not_after h =
      no_zero (drop p b) p
      (λ i k e. none_after b (length b) (p + i) (omega arith) (omega (arith, length-drop p b)) (sym (get_or-drop p b i 0) ∙ e))

-- the same of the place where a text begins
module _ (b : List ℕ) (place ends : ℕ) (is : ends ≡ zeros_to b (length b)) where
  pub before_body : place < 24 → is_at (end_of b place) ≡ false
  before_body h = rw (lt-ltb place 24 h)

  pub in_body : 24 ≤ place → ltb (place - 24) ends ≡ is_at (end_of b place)
  in_body h = rw (le-ltb place 24 h) (go (ltb (place - 24) ends) refl)
    where
      go : (t : Bool) → ltb (place - 24) ends ≡ t → t ≡ is_at (zero_in (drop (place - 24) b) (place - 24))
      go true e = sym (zero_after b (place - 24) (omega (arith, ltb-true (place - 24) ends e, is)))
      go false e = sym (zero_not_after b (place - 24) (omega (arith, ltb-false (place - 24) ends e, is)))
