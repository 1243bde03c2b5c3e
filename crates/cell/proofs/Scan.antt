-- One step of the search for a zero byte, and its end. Assumes nothing.
use Rattle.std.specs.Prelude.{Some, None}
use mathlib.Core.Path.{◌≡◌, refl, ap, ◌∙◌}
use native.Mathlib.Omega.{arith}
use mathlib.Core.List.{List, [], ◌∷◌}
use mathlib.Core.Bool.{Bool, true, false, cond}
use Prim.Native.Nat.{ℕ, suc, ◌+◌, ◌-◌, ◌<◌, ◌≤◌}
use native.Mathlib.Numerals.{add-one}
use lib.ListN.{length, get_or, drop, drop_of_length-le, length-drop}
use lib.Seq.{drop-cons}
use lib.Dec.{eqb, ltb}
use borrow.Author.Tests.{eq-eqb, ne_eqb, ltb-false}
use Rattle.cell.specs.Parts.{zero_in, end_of}

module _ (b : List ℕ) (i : ℕ) where
  step : i < length b → zero_in (drop i b) i ≡ cond (eqb (get_or b i 0) 0) (Some i) (zero_in (drop (i + 1) b) (i + 1))
  unfolding zero_in
  step h = rw (add-one, drop-cons b i 0 h)

  pub here : i < length b → get_or b i 0 ≡ 0 → zero_in (drop i b) i ≡ Some i
  here h e = step h ∙ ap (λ (t : Bool). cond t (Some i) (zero_in (drop (i + 1) b) (i + 1))) (eq-eqb _ _ e)

  pub later : i < length b → (get_or b i 0 ≡ 0 → ⊥) → zero_in (drop i b) i ≡ zero_in (drop (i + 1) b) (i + 1)
  later h e = step h ∙ ap (λ (t : Bool). cond t (Some i) (zero_in (drop (i + 1) b) (i + 1))) (ne_eqb _ _ e)

  pub over : length b ≤ i → zero_in (drop i b) i ≡ None
  unfolding zero_in
  over h = ap (λ (l : List ℕ). zero_in l i) (drop_of_length-le b h)

-- where the search ends lies at or after where it begins, and within the list
pub within : (l : List ℕ) (p z : ℕ) → zero_in l p ≡ Some z → (p ≤ z) × (z < p + length l)
unfolding zero_in
within [] p z e = let f : ◌≡◌ {A = ℕ} 0 1 = cc in omega arith
within (x ∷ xs) p z e = go (eqb x 0) e (within xs (suc p) z)
  where
    go : (t : Bool) → cond t (Some p) (zero_in xs (suc p)) ≡ Some z → (zero_in xs (suc p) ≡ Some z → (suc p ≤ z) × (z < suc p + length xs)) → (p ≤ z) × (z < p + length (x ∷ xs))
    go true h w = let f : p ≡ z = cc in omega arith
    go false h w = let v = w h in omega arith

pub ended : (b : List ℕ) (place z : ℕ) → end_of b place ≡ Some z → (24 ≤ place) × ((place - 24 ≤ z) × (z < length b))
ended b place z e = go (ltb place 24) refl e
  where
    go : (t : Bool) → ltb place 24 ≡ t → cond t None (zero_in (drop (place - 24) b) (place - 24)) ≡ Some z → (24 ≤ place) × ((place - 24 ≤ z) × (z < length b))
    go true h f = let n : ◌≡◌ {A = ℕ} 0 1 = cc in omega arith
    go false h f =
        let w = within (drop (place - 24) b) (place - 24) z f in
        omega (arith, length-drop (place - 24) b, ltb-false place 24 h)
