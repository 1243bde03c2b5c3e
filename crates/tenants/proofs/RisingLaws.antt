-- Tenants in rising order of their numbers. Where no number stands twice, the tenant of a rank is the one at that place, so the lines are those of the
-- tenants in that order. Assumes nothing.
use Prim.Native.Nat.{ℕ, suc, ◌+◌, ◌-◌, ◌≤◌, ◌<◌}
use mathlib.Core.Path.{◌≡◌, refl, sym, ap, ap₂, ◌∙◌}
use mathlib.Core.Logic.{◌⊎◌, inl, inr, ⊎_elim}
use mathlib.Core.Bool.{Bool, true, false, cond, ◌&&◌}
use mathlib.Core.List.Permᴰ
use mathlib.Core.List.{List, [], ◌∷◌, map, Memᴰ, Permᴰ}
use native.Mathlib.Omega.{arith}
use lib.ListN.{length, get_or}
use lib.Dec.{ltb, eqb}
use borrow.Author.Tests.{lt-ltb, le-ltb, eq-eqb, ne_eqb, ltb-true, ltb-false, eqb-true}
use Rattle.laws.proofs.Side.{side}
use Rattle.tenants.specs.Tenants.{number_in, counted, is_repeated, repeated, first_of, has_rank, ranked, has_number, is_below}
use Rattle.tenants.specs.Shares.{line_of, line_at, lines_from}
use Rattle.tenants.proofs.ChainLaws.{at_most_one}
use Rattle.tenants.proofs.CountLaws.{same_count, same_first, perm_length, perm_count, perm_first, only_one}

-- ---- no number stands twice

abbrev pub Distinct : List (List ℕ) → Type 0
Distinct ts = (number : ℕ) → counted (has_number number) ts ≤ 1

not_repeated : (ts s : List (List ℕ)) → counted (is_repeated ts) s ≡ 0 → (number : ℕ)
    → (counted (has_number number) s ≡ 0) ⊎ (counted (has_number number) ts ≤ 1)
unfolding counted
not_repeated ts [] e number = inl refl
not_repeated ts (t ∷ s) e number = by_repeated (λ (f : counted (is_repeated ts) s ≡ 0). not_repeated ts s f number) (is_repeated ts t) refl (eqb (number_in t) number) refl
  where
    by_repeated : (counted (is_repeated ts) s ≡ 0 → (counted (has_number number) s ≡ 0) ⊎ (counted (has_number number) ts ≤ 1))
        → (b : Bool) → is_repeated ts t ≡ b → (q : Bool) → eqb (number_in t) number ≡ q
        → (counted (has_number number) (t ∷ s) ≡ 0) ⊎ (counted (has_number number) ts ≤ 1)
    by_repeated rest true r q n = let z : cond (is_repeated ts t) 1 0 + counted (is_repeated ts) s ≡ 1 + counted (is_repeated ts) s = rw r in absurd (omega arith)
    by_repeated rest false r true n = inr (rw (sym (eqb-true (number_in t) number n)) (ltb-false 1 (counted (has_number (number_in t)) ts) r))
    by_repeated rest false r false n =
        let z : cond (is_repeated ts t) 1 0 + counted (is_repeated ts) s ≡ 0 + counted (is_repeated ts) s = rw r in
        ⊎_elim (λ (f : counted (has_number number) s ≡ 0). inl (rw (n, f))) inr (rest (omega arith))

pub distinct : (ts : List (List ℕ)) → repeated ts ≡ false → Distinct ts
distinct ts e number =
    let none = ltb-false 0 (counted (is_repeated ts) ts) e in
    ⊎_elim (λ (f : counted (has_number number) ts ≡ 0). omega arith) (λ (f : counted (has_number number) ts ≤ 1). f) (not_repeated ts ts (omega arith) number)

-- two tenants of one number are one
pub one_tenant : {t u : List ℕ} (ts : List (List ℕ)) → Distinct ts → Memᴰ t ts → Memᴰ u ts → number_in t ≡ number_in u → t ≡ u
one_tenant {t} {u} ts d m n e =
    only_one (has_number (number_in u)) ts (d (number_in u)) m n (eq-eqb (number_in t) (number_in u) e) (eq-eqb (number_in u) (number_in u) refl)

-- ---- in rising order

unfoldable pub insert : List ℕ → List (List ℕ) → List (List ℕ)
insert t [] = t ∷ []
insert t (u ∷ us) = cond (ltb (number_in t) (number_in u)) (t ∷ u ∷ us) (u ∷ insert t us)

unfoldable pub rising : List (List ℕ) → List (List ℕ)
rising [] = []
rising (t ∷ ts) = insert t (rising ts)

perm_insert : (t : List ℕ) (us : List (List ℕ)) → Permᴰ (t ∷ us) (insert t us)
unfolding insert
perm_insert t [] = Permᴰ.refl (t ∷ [])
perm_insert t (u ∷ us) = by_test (ltb (number_in t) (number_in u)) (perm_insert t us)
  where
    by_test : (b : Bool) → Permᴰ (t ∷ us) (insert t us) → Permᴰ (t ∷ u ∷ us) (cond b (t ∷ u ∷ us) (u ∷ insert t us))
    by_test true rest = Permᴰ.refl (t ∷ u ∷ us)
    by_test false rest = Permᴰ.trans (Permᴰ.swap refl refl) (Permᴰ.cons refl rest)

pub perm_rising : (ts : List (List ℕ)) → Permᴰ ts (rising ts)
unfolding rising
perm_rising [] = Permᴰ.nil
perm_rising (t ∷ ts) = Permᴰ.trans (Permᴰ.cons refl (perm_rising ts)) (perm_insert t (rising ts))

-- each number is above the one before it, and the first no lower than a bound
pub data RisingFrom : ℕ → List (List ℕ) → Type 0 where
  none_left : {low : ℕ} → RisingFrom low []
  one_more : {low : ℕ} {t : List ℕ} {ts : List (List ℕ)} → low ≤ number_in t → RisingFrom (suc (number_in t)) ts → RisingFrom low (t ∷ ts)

pub rises : {low : ℕ} {t : List ℕ} {ts : List (List ℕ)} → RisingFrom low (t ∷ ts) → (low ≤ number_in t) × RisingFrom (suc (number_in t)) ts
rises (one_more h r) = (h, r)

insert_rises : (t : List ℕ) (us : List (List ℕ)) (low : ℕ) → RisingFrom low us → low ≤ number_in t → counted (has_number (number_in t)) us ≡ 0 → RisingFrom low (insert t us)
unfolding insert counted
insert_rises t [] low r h e = one_more h none_left
insert_rises t (u ∷ us) low r h e = by_test (ltb (number_in t) (number_in u)) refl (rises r) (λ (l : suc (number_in u) ≤ number_in t) (f : counted (has_number (number_in t)) us ≡ 0). insert_rises t us (suc (number_in u)) (rises r).1 l f)
  where
    by_test : (b : Bool) → ltb (number_in t) (number_in u) ≡ b → (low ≤ number_in u) × RisingFrom (suc (number_in u)) us
        → (suc (number_in u) ≤ number_in t → counted (has_number (number_in t)) us ≡ 0 → RisingFrom (suc (number_in u)) (insert t us))
        → RisingFrom low (cond b (t ∷ u ∷ us) (u ∷ insert t us))
    by_test true l r rest = one_more h (one_more (ltb-true (number_in t) (number_in u) l) r.1)
    by_test false l r rest =
        let above = ltb-false (number_in t) (number_in u) l in
        ⊎_elim
        (λ (k : number_in u < number_in t). one_more r.0 (rest k (omega arith)))
        (λ (k : number_in t ≤ number_in u).
        let z : cond (eqb (number_in u) (number_in t)) 1 0 + counted (has_number (number_in t)) us ≡ 1 + counted (has_number (number_in t)) us = rw (eq-eqb (number_in u) (number_in t) (omega arith)) in
        absurd (omega arith))
        (side (number_in u) (number_in t))

pub rising_rises : (ts : List (List ℕ)) → Distinct ts → RisingFrom 0 (rising ts)
unfolding rising counted
rising_rises [] d = none_left
rising_rises (t ∷ ts) d =
    let own : cond (eqb (number_in t) (number_in t)) 1 0 + counted (has_number (number_in t)) ts ≡ 1 + counted (has_number (number_in t)) ts = rw (eq-eqb (number_in t) (number_in t) refl) in
    let h : counted (has_number (number_in t)) ts ≡ 0 = omega (arith, d (number_in t)) in
    insert_rises t (rising ts) 0 (rising_rises ts (λ number. omega (arith, d number))) (omega arith) (sym (perm_count (has_number (number_in t)) (perm_rising ts)) ∙ h)

-- ---- how many of those that a test picks have a lower number

abbrev pub lower : (List ℕ → Bool) → ℕ → List ℕ → Bool
lower test number t = ltb (number_in t) number && test t

module _ (test : List ℕ → Bool) where
  none_lower : (number low : ℕ) (s : List (List ℕ)) → RisingFrom low s → number ≤ low → counted (lower test number) s ≡ 0
  unfolding counted
  none_lower number low [] r h = refl
  none_lower number low (t ∷ s) r h =
      let e : ltb (number_in t) number ≡ false = le-ltb (number_in t) number (omega (arith, (rises r).0)) in
      let n : counted (lower test number) (t ∷ s) ≡ 0 + counted (lower test number) s = rw e in
      omega (arith, n, none_lower number (suc (number_in t)) s (rises r).1 (omega (arith, (rises r).0)))

  -- k that the test picks stand before s, all of them below a bound
  abbrev pub Before : List (List ℕ) → ℕ → ℕ → List (List ℕ) → Type 0
  Before ts low k s = (number : ℕ) → low ≤ number → counted (lower test number) ts ≡ k + counted (lower test number) s

  pub none_before : (ts : List (List ℕ)) → Before ts 0 0 ts
  none_before ts number h = omega arith

  module _ (ts : List (List ℕ)) (low k : ℕ) (t : List ℕ) (s : List (List ℕ)) (b : Before ts low k (t ∷ s)) (r : RisingFrom low (t ∷ s)) where
    pub its_rank : counted (lower test (number_in t)) ts ≡ k
    unfolding counted
    its_rank =
        let e : ltb (number_in t) (number_in t) ≡ false = le-ltb (number_in t) (number_in t) (omega arith) in
        let n : counted (lower test (number_in t)) (t ∷ s) ≡ 0 + counted (lower test (number_in t)) s = rw e in
        omega (arith, b (number_in t) (rises r).0, n, none_lower (number_in t) (suc (number_in t)) s (rises r).1 (omega arith))

    pub one_before : Before ts (suc (number_in t)) (k + cond (test t) 1 0) s
    unfolding counted
    one_before number h =
        let e : ltb (number_in t) number ≡ true = lt-ltb (number_in t) number (omega arith) in
        let n : counted (lower test number) (t ∷ s) ≡ cond (test t) 1 0 + counted (lower test number) s = rw e in
        omega (arith, b number (omega (arith, (rises r).0)), n)

-- ---- the tenant of a rank

abbrev all : List ℕ → Bool
all t = true

and-true : (b : Bool) → b && true ≡ b
and-true true = refl
and-true false = refl

-- at a place of rising tenants stands the one of that rank
module _ (l : List (List ℕ)) where
  rank_is : (low k : ℕ) (t : List ℕ) (s : List (List ℕ)) → Before all l low k (t ∷ s) → RisingFrom low (t ∷ s) → (rank : ℕ) → has_rank l rank t ≡ eqb k rank
  rank_is low k t s b r rank =
      ap (λ (n : ℕ). eqb n rank) (sym (same_count (lower all (number_in t)) (is_below (number_in t)) (λ u. and-true (ltb (number_in u) (number_in t))) l) ∙ its_rank all l low k t s b r)

  first_at : (d : List ℕ) (rank low k : ℕ) (s : List (List ℕ)) → Before all l low k s → RisingFrom low s → k ≤ rank → rank < k + length s → first_of (has_rank l rank) s ≡ get_or s (rank - k) d
  unfolding first_of
  first_at d rank low k [] b r h i = absurd (omega arith)
  first_at d rank low k (t ∷ s) b r h i =
      ⊎_elim
      (λ (e : k < rank).
      let q : rank - k ≡ suc (rank - (k + 1)) = omega arith in
      rw (rank_is low k t s b r rank, ne_eqb k rank (λ z. omega arith), q) (first_at d rank (suc (number_in t)) (k + 1) s (one_before all l low k t s b r) (rises r).1 (omega arith) (omega arith)))
      (λ (e : rank ≤ k).
      let q : rank - k ≡ 0 = omega arith in
      rw (rank_is low k t s b r rank, eq-eqb k rank (omega arith), q))
      (side k rank)

  none_at : (rank low k : ℕ) (s : List (List ℕ)) → Before all l low k s → RisingFrom low s → rank < k → counted (has_rank l rank) s ≡ 0
  unfolding counted
  none_at rank low k [] b r h = refl
  none_at rank low k (t ∷ s) b r h =
      let z : has_rank l rank t ≡ false = rank_is low k t s b r rank ∙ ne_eqb k rank (λ z. omega arith) in
      let n : counted (has_rank l rank) (t ∷ s) ≡ 0 + counted (has_rank l rank) s = rw z in
      omega (arith, n, none_at rank (suc (number_in t)) (k + 1) s (one_before all l low k t s b r) (rises r).1 (omega arith))

  one_at : (rank low k : ℕ) (s : List (List ℕ)) → Before all l low k s → RisingFrom low s → counted (has_rank l rank) s ≤ 1
  unfolding counted
  one_at rank low k [] b r = omega arith
  one_at rank low k (t ∷ s) b r =
      let next = one_before all l low k t s b r in
      ⊎_elim
      (λ (e : rank < k + 1). omega (arith, at_most_one (has_rank l rank t), none_at rank (suc (number_in t)) (k + 1) s next (rises r).1 e))
      (λ (e : k + 1 ≤ rank).
      let z : has_rank l rank t ≡ false = rank_is low k t s b r rank ∙ ne_eqb k rank (λ z. omega arith) in
      let n : counted (has_rank l rank) (t ∷ s) ≡ 0 + counted (has_rank l rank) s = rw z in
      omega (arith, n, one_at rank (suc (number_in t)) (k + 1) s next (rises r).1))
      (side rank (k + 1))

module _ (ts : List (List ℕ)) (d : Distinct ts) where
  abbrev sorted : List (List ℕ)
  sorted = rising ts

  same_rank : (rank : ℕ) (t : List ℕ) → has_rank ts rank t ≡ has_rank sorted rank t
  same_rank rank t = ap (λ (n : ℕ). eqb n rank) (perm_count (is_below (number_in t)) (perm_rising ts))

  -- one tenant at most has a rank
  pub few_ranked : (rank : ℕ) → counted (has_rank ts rank) ts ≤ 1
  few_ranked rank =
      omega (arith, same_count (has_rank ts rank) (has_rank sorted rank) (same_rank rank) ts, perm_count (has_rank sorted rank) (perm_rising ts), one_at sorted rank 0 0 sorted (none_before all sorted) (rising_rises ts d))

  ranked_is : (rank : ℕ) → rank < length ts → ranked rank ts ≡ get_or sorted rank []
  ranked_is rank h =
      let p = perm_rising ts in
      let q : rank - 0 ≡ rank = omega arith in
      perm_first (has_rank ts rank) p (few_ranked rank) ∙ same_first (has_rank ts rank) (has_rank sorted rank) (same_rank rank) sorted
      ∙ first_at sorted [] rank 0 0 sorted (none_before all sorted) (rising_rises ts d) (omega arith) (omega (arith, perm_length p)) ∙ ap (λ (n : ℕ). get_or sorted n []) q

-- lines of the elements of a list, by their places
lines_of : (line : ℕ → List ℕ) (of : List ℕ → List ℕ) (k : ℕ) (s : List (List ℕ)) → ((i : ℕ) → i < length s → line (k + i) ≡ of (get_or s i [])) → lines_from line k (length s) ≡ map of s
unfolding lines_from
lines_of line of k [] e = refl
lines_of line of k (t ∷ s) e =
    let z : k + 0 ≡ k = omega arith in
    ap₂ ◌∷◌ (ap line (sym z) ∙ e 0 (omega arith))
    (lines_of line of (suc k) s (λ i h. let n : suc k + i ≡ k + suc i = omega arith in ap line n ∙ e (suc i) (omega arith)))

pub lines_are : (bits size : ℕ) (ts : List (List ℕ)) → Distinct ts → lines_from (line_at bits size ts) 0 (length ts) ≡ map (line_of bits size ts) (rising ts)
lines_are bits size ts d =
    let n : length ts ≡ length (rising ts) = perm_length (perm_rising ts) in
    ap (lines_from (line_at bits size ts) 0) n
    ∙ lines_of (line_at bits size ts) (line_of bits size ts) 0 (rising ts)
    (λ i h. let z : 0 + i ≡ i = omega arith in ap (line_at bits size ts) z ∙ ap (line_of bits size ts) (ranked_is ts d i (omega arith)))
