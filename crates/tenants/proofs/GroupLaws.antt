-- Two tenants have one lowest tenant of their group exactly when their keys agree in the bits that the film shows. Assumes nothing.
use Prim.Native.Nat.{ℕ, ◌≤◌, ◌<◌, min}
use mathlib.Core.Path.{◌≡◌, refl, sym, ap, ◌∙◌}
use mathlib.Core.Logic.{◌⊎◌, inl, inr, ⊎_elim}
use mathlib.Core.Bool.{Bool, true, false, cond, false≢true}
use mathlib.Core.List.{List, [], ◌∷◌, Memᴰ}
use native.Mathlib.Omega.{arith}
use lib.Dec.{eqb}
use lib.Bits.{bit_and}
use borrow.Author.Tests.{eq-eqb, eqb-true}
use Rattle.laws.proofs.Side.{side}
use Rattle.key.specs.LaneBits.{AgreeIn}
use Rattle.tenants.specs.Tenants.{number_in, key_in, sharing, lowest}
use Rattle.tenants.specs.Shares.{group_of}
use Rattle.tenants.proofs.CountLaws.{same_lowest}
use Rattle.tenants.proofs.RisingLaws.{Distinct, one_tenant}

-- ---- one copy

module _ (bits : ℕ) where
  -- keys with one copy have it with the same tenants
  pub same_sharing : (key key' : ℕ) → AgreeIn bits key key' → (t : List ℕ) → sharing bits key t ≡ sharing bits key' t
  same_sharing key key' e t = ap (λ (shown : ℕ). eqb shown (bit_and (key_in t) bits)) e

  pub shares_copy : (key : ℕ) (t : List ℕ) → sharing bits key t ≡ true → AgreeIn bits key (key_in t)
  shares_copy key t e = eqb-true (bit_and key bits) (bit_and (key_in t) bits) e

  pub copy_shares : (key : ℕ) (t : List ℕ) → AgreeIn bits key (key_in t) → sharing bits key t ≡ true
  copy_shares key t e = eq-eqb (bit_and key bits) (bit_and (key_in t) bits) e

-- ---- the lowest of a group

module _ (test : List ℕ → Bool) (number : ℕ) where
  lowest_under : {t : List ℕ} {ts : List (List ℕ)} → Memᴰ t ts → test t ≡ true → lowest test number ts ≤ number_in t
  unfolding lowest
  lowest_under {t} (Memᴰ.head {x = x} {xs = xs} e) p =
      let c : cond (test x) (number_in x) number ≡ number_in t = rw (ap test (sym e) ∙ p) (ap number_in (sym e)) in
      omega arith
  lowest_under (Memᴰ.tail {x = x} {xs = xs} m) p = omega (arith, lowest_under m p)

  -- the tenant whose number it is
  abbrev Its : List (List ℕ) → ℕ → Type 0
  Its ts n = (t : List ℕ) × Memᴰ t ts × (test t ≡ true) × (number_in t ≡ n)

  one_more_there : (t : List ℕ) (ts : List (List ℕ)) (n : ℕ) → Its ts n → Its (t ∷ ts) n
  one_more_there t ts n (u, m, p, e) = (u, Memᴰ.tail m, p, e)

  lowest_is : (ts : List (List ℕ)) → (lowest test number ts ≡ number) ⊎ Its ts (lowest test number ts)
  unfolding lowest
  lowest_is [] = inl refl
  lowest_is (t ∷ ts) = by_test (test t) refl (lowest_is ts)
    where
      by_test : (b : Bool) → test t ≡ b → (lowest test number ts ≡ number) ⊎ Its ts (lowest test number ts)
          → (min (cond (test t) (number_in t) number) (lowest test number ts) ≡ number) ⊎ Its (t ∷ ts) (min (cond (test t) (number_in t) number) (lowest test number ts))
      by_test true p r =
          rw p
          (⊎_elim
          (λ (l : number_in t < lowest test number ts).
          inr (t, Memᴰ.head refl, p, let e : number_in t ≡ min (number_in t) (lowest test number ts) = omega arith in e))
          (λ (l : lowest test number ts ≤ number_in t).
          let e : min (number_in t) (lowest test number ts) ≡ lowest test number ts = omega arith in
          rw e (⊎_elim (λ (q : lowest test number ts ≡ number). inl q) (λ (q : Its ts (lowest test number ts)). inr (one_more_there t ts (lowest test number ts) q)) r))
          (side (number_in t) (lowest test number ts)))
      by_test false p r =
          rw p
          (⊎_elim
          (λ (l : number < lowest test number ts). inl (let e : min number (lowest test number ts) ≡ number = omega arith in e))
          (λ (l : lowest test number ts ≤ number).
          let e : min number (lowest test number ts) ≡ lowest test number ts = omega arith in
          rw e (⊎_elim (λ (q : lowest test number ts ≡ number). inl q) (λ (q : Its ts (lowest test number ts)). inr (one_more_there t ts (lowest test number ts) q)) r))
          (side number (lowest test number ts)))

-- where the number is that of a member, the lowest is a member's
lowest_member : (test : List ℕ → Bool) (t : List ℕ) (ts : List (List ℕ)) → Memᴰ t ts → test t ≡ true → Its test (number_in t) ts (lowest test (number_in t) ts)
lowest_member test t ts m p = ⊎_elim (λ (e : lowest test (number_in t) ts ≡ number_in t). (t, m, p, sym e)) (λ (q : Its test (number_in t) ts (lowest test (number_in t) ts)). q) (lowest_is test (number_in t) ts)

module _ (bits : ℕ) (ts : List (List ℕ)) {t u : List ℕ} (m : Memᴰ t ts) (n : Memᴰ u ts) where
  own : (v : List ℕ) → sharing bits (key_in v) v ≡ true
  own v = copy_shares bits (key_in v) v refl

  pub one_group : AgreeIn bits (key_in t) (key_in u) → group_of bits ts t ≡ group_of bits ts u
  one_group e =
      let s = sharing bits (key_in u) in
      let p : s t ≡ true = sym (same_sharing bits (key_in t) (key_in u) e t) ∙ own t in
      let a = lowest_member s t ts m p in
      let b = lowest_member s u ts n (own u) in
      let h = lowest_under s (number_in t) b.1 b.2 in
      let k = lowest_under s (number_in u) a.1 a.2 in
      same_lowest (sharing bits (key_in t)) s (same_sharing bits (key_in t) (key_in u) e) (number_in t) ts ∙ omega (arith, h, k, a.3, b.3)

  pub of_one_group : Distinct ts → group_of bits ts t ≡ group_of bits ts u → AgreeIn bits (key_in t) (key_in u)
  of_one_group d e =
      let a = lowest_member (sharing bits (key_in t)) t ts m (own t) in
      let b = lowest_member (sharing bits (key_in u)) u ts n (own u) in
      let same : a.0 ≡ b.0 = one_tenant ts d a.1 b.1 (a.3 ∙ e ∙ sym b.3) in
      let f : AgreeIn bits (key_in t) (key_in b.0) = rw same at (shares_copy bits (key_in t) a.0 a.2) in
      f ∙ sym (shares_copy bits (key_in u) b.0 b.2)

  -- whether two tenants are in one group, as a test
  pub group_test : Distinct ts → eqb (group_of bits ts u) (group_of bits ts t) ≡ sharing bits (key_in t) u
  group_test d = by_tests (eqb (group_of bits ts u) (group_of bits ts t)) (sharing bits (key_in t) u) refl refl
    where
      by_tests : (s b : Bool) → eqb (group_of bits ts u) (group_of bits ts t) ≡ s → sharing bits (key_in t) u ≡ b → s ≡ b
      by_tests true true p q = refl
      by_tests true false p q =
          absurd (false≢true (sym q ∙ copy_shares bits (key_in t) u (of_one_group d (sym (eqb-true (group_of bits ts u) (group_of bits ts t) p)))))
      by_tests false true p q =
          absurd (false≢true (sym p ∙ eq-eqb (group_of bits ts u) (group_of bits ts t) (sym (one_group (shares_copy bits (key_in t) u q)))))
      by_tests false false p q = refl

-- ---- the tenant whose number is the group's name

module _ (bytes : ℕ) (ts : List (List ℕ)) (d : Distinct ts) {t : List ℕ} (m : Memᴰ t ts) where
  -- no tenant of the group has a lower number
  pub none_lower : {u : List ℕ} → Memᴰ u ts → group_of bytes ts u ≡ group_of bytes ts t → group_of bytes ts t ≤ number_in u
  none_lower {u} n e = lowest_under (sharing bytes (key_in t)) (number_in t) n (copy_shares bytes (key_in t) u (of_one_group bytes ts m n d (sym e)))

  -- and one of them has it
  pub lowest_there : (u : List ℕ) × Memᴰ u ts × (group_of bytes ts u ≡ group_of bytes ts t) × (number_in u ≡ group_of bytes ts t)
  lowest_there =
      let a = lowest_member (sharing bytes (key_in t)) t ts m (own bytes ts m m t) in
      (a.0, a.1, sym (one_group bytes ts m a.1 (shares_copy bytes (key_in t) a.0 a.2)), a.3)
