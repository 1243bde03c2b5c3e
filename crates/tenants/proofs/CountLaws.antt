-- Counts, the lowest number and the first that is picked: they follow the test, and the order of the tenants does not matter to them. Of several that a test
-- picks this holds of the first only where it picks no other. Assumes nothing.
use Prim.Native.Nat.{ℕ, suc, ◌+◌, ◌≤◌, min}
use mathlib.Core.Path.{◌≡◌, refl, sym, ap, ap₂, ◌∙◌}
use mathlib.Core.Logic.{⊎_elim}
use mathlib.Core.Bool.{Bool, true, false, cond}
use mathlib.Core.List.Memᴰ
use mathlib.Core.List.{List, [], ◌∷◌, Memᴰ, Permᴰ}
use native.Mathlib.Omega.{arith}
use lib.ListN.{length}
use Rattle.tenants.specs.Tenants.{number_in, counted, lowest, first_of}

-- ---- tests that agree

module _ (test test' : List ℕ → Bool) (same : (t : List ℕ) → test t ≡ test' t) where
  pub same_count : (ts : List (List ℕ)) → counted test ts ≡ counted test' ts
  unfolding counted
  same_count [] = refl
  same_count (t ∷ ts) = ap₂ (λ (b : Bool) (n : ℕ). cond b 1 0 + n) (same t) (same_count ts)

  pub same_lowest : (number : ℕ) (ts : List (List ℕ)) → lowest test number ts ≡ lowest test' number ts
  unfolding lowest
  same_lowest number [] = refl
  same_lowest number (t ∷ ts) = ap₂ (λ (b : Bool) (n : ℕ). min (cond b (number_in t) number) n) (same t) (same_lowest number ts)

  pub same_first : (ts : List (List ℕ)) → first_of test ts ≡ first_of test' ts
  unfolding first_of
  same_first [] = refl
  same_first (t ∷ ts) = ap₂ (λ (b : Bool) (u : List ℕ). cond b t u) (same t) (same_first ts)

-- ---- another order

-- a tenant is there in any order
pub perm_member : {t : List ℕ} {ts ts' : List (List ℕ)} → Permᴰ ts ts' → Memᴰ t ts → Memᴰ t ts'
perm_member Permᴰ.nil m = m
perm_member (Permᴰ.cons e d) m = ⊎_elim (λ q. Memᴰ.head (q ∙ e)) (λ n. Memᴰ.tail (perm_member d n)) (Memᴰ.cases_cons m)
perm_member (Permᴰ.swap e f) m =
    ⊎_elim (λ q. Memᴰ.tail (Memᴰ.head (q ∙ e)))
    (λ n. ⊎_elim (λ q. Memᴰ.head (q ∙ f)) (λ o. Memᴰ.tail (Memᴰ.tail o)) (Memᴰ.cases_cons n))
    (Memᴰ.cases_cons m)
perm_member (Permᴰ.trans d d') m = perm_member d' (perm_member d m)

pub perm_length : {ts ts' : List (List ℕ)} → Permᴰ ts ts' → length ts ≡ length ts'
perm_length Permᴰ.nil = refl
perm_length (Permᴰ.cons e d) = ap suc (perm_length d)
perm_length (Permᴰ.swap e f) = refl
perm_length (Permᴰ.trans d d') = perm_length d ∙ perm_length d'

module _ (test : List ℕ → Bool) where
  abbrev one : List ℕ → ℕ
  one t = cond (test t) 1 0

  pub perm_count : {ts ts' : List (List ℕ)} → Permᴰ ts ts' → counted test ts ≡ counted test ts'
  unfolding counted
  perm_count Permᴰ.nil = refl
  perm_count (Permᴰ.cons e d) = ap₂ (λ (t : List ℕ) (n : ℕ). one t + n) e (perm_count d)
  perm_count (Permᴰ.swap {a = a} {b = b} {a' = a'} {b' = b'} {l = l} e f) = omega (arith, ap one e, ap one f)
  perm_count (Permᴰ.trans d d') = perm_count d ∙ perm_count d'

  -- the first of two, where not both are picked
  either_first : (a b rest : List ℕ) (s t : Bool) → cond s 1 0 + cond t 1 0 ≤ 1 → cond s a (cond t b rest) ≡ cond t b (cond s a rest)
  either_first a b rest true true h = absurd (omega arith)
  either_first a b rest true false h = refl
  either_first a b rest false t h = refl

  pub perm_first : {ts ts' : List (List ℕ)} → Permᴰ ts ts' → counted test ts ≤ 1 → first_of test ts ≡ first_of test ts'
  unfolding counted first_of
  perm_first Permᴰ.nil h = refl
  perm_first (Permᴰ.cons {a = a} {b = b} {l₁ = l₁} {l₂ = l₂} e d) h =
      ap₂ (λ (t u : List ℕ). cond (test t) t u) e (perm_first d (omega arith))
  perm_first (Permᴰ.swap {a = a} {b = b} {a' = a'} {b' = b'} {l = l} e f) h =
      either_first a b (first_of test l) (test a) (test b) (omega arith) ∙ ap₂ (λ (t u : List ℕ). cond (test u) u (cond (test t) t (first_of test l))) e f
  perm_first (Permᴰ.trans d d') h = perm_first d h ∙ perm_first d' (omega (arith, perm_count d))

module _ (test : List ℕ → Bool) (number : ℕ) where
  abbrev its : List ℕ → ℕ
  its t = cond (test t) (number_in t) number

  pub perm_lowest : {ts ts' : List (List ℕ)} → Permᴰ ts ts' → lowest test number ts ≡ lowest test number ts'
  unfolding lowest
  perm_lowest Permᴰ.nil = refl
  perm_lowest (Permᴰ.cons e d) = ap₂ (λ (t : List ℕ) (n : ℕ). min (its t) n) e (perm_lowest d)
  perm_lowest (Permᴰ.swap {a = a} {b = b} {a' = a'} {b' = b'} {l = l} e f) =
      let m : min (its a) (min (its b) (lowest test number l)) ≡ min (its b) (min (its a) (lowest test number l)) = omega arith in
      m ∙ ap₂ (λ (t u : List ℕ). min (its u) (min (its t) (lowest test number l))) e f
  perm_lowest (Permᴰ.trans d d') = perm_lowest d ∙ perm_lowest d'

-- ---- members

module _ (test : List ℕ → Bool) where
  pub counted_member : {t : List ℕ} {ts : List (List ℕ)} → Memᴰ t ts → test t ≡ true → 1 ≤ counted test ts
  unfolding counted
  counted_member (Memᴰ.head {x = x} {xs = xs} e) p =
      let q : ◌≡◌ {A = ℕ} (cond (test x) 1 0) 1 = ap (λ (b : Bool). cond b 1 0) (ap test (sym e) ∙ p) in
      omega arith
  counted_member (Memᴰ.tail {x = x} {xs = xs} m) p = omega (arith, counted_member m p)

  -- a test that picks one at most picks no two
  pub only_one : {t u : List ℕ} (ts : List (List ℕ)) → counted test ts ≤ 1 → Memᴰ t ts → Memᴰ u ts → test t ≡ true → test u ≡ true → t ≡ u
  unfolding counted
  only_one [] h m n p q = absurd (Memᴰ.not-nil m)
  only_one {t} {u} (x ∷ xs) h m n p q =
      ⊎_elim
      (λ (e : t ≡ x). ⊎_elim (λ (f : u ≡ x). e ∙ sym f) (λ (o : Memᴰ u xs). absurd (two t e p (counted_member o q))) (Memᴰ.cases_cons n))
      (λ (k : Memᴰ t xs).
      ⊎_elim (λ (f : u ≡ x). absurd (two u f q (counted_member k p))) (λ (o : Memᴰ u xs). only_one xs (omega arith) k o p q) (Memᴰ.cases_cons n))
      (Memᴰ.cases_cons m)
    where
      two : (v : List ℕ) → v ≡ x → test v ≡ true → 1 ≤ counted test xs → ⊥
      two v e p l =
          let one : ◌≡◌ {A = ℕ} (cond (test x) 1 0) 1 = ap (λ (b : Bool). cond b 1 0) (ap test (sym e) ∙ p) in
          omega arith
