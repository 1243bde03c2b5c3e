-- The shares of a group are those of the ranks from 0 on, so they come to the size of its copy; they differ by one at most, and no lower number has the
-- smaller one. Assumes nothing.
use Prim.Native.Nat.{ℕ, zero, suc, ◌+◌, ◌*◌, ◌-◌, ◌/◌, ◌%◌, ◌≤◌, ◌<◌}
use mathlib.Core.Path.{◌≡◌, refl, sym, ap, ap₂, ◌∙◌}
use mathlib.Core.Logic.{⊎_elim}
use mathlib.Core.Bool.{Bool, true, false, cond, ◌&&◌}
use mathlib.Core.List.Permᴰ
use mathlib.Core.List.{List, [], ◌∷◌, Memᴰ}
use native.Mathlib.Nat.{add-zero, zero-add, zero-mul, suc-mul, mul_comm, div-add-mod', mod-lt}
use native.Mathlib.Omega.{arith}
use lib.Dec.{ltb, eqb}
use borrow.Author.Tests.{lt-ltb, le-ltb, ne_eqb}
use Rattle.laws.proofs.Side.{side}
use Rattle.key.specs.LaneBits.{AgreeIn}
use Rattle.tenants.specs.Tenants.{number_in, key_in, sharing, counted, sharing_below}
use Rattle.tenants.specs.Shares.{portion, share_of, group_of}
use Rattle.tenants.proofs.ChainLaws.{at_most_one}
use Rattle.tenants.proofs.CountLaws.{same_count, perm_count, perm_member, counted_member}
use Rattle.tenants.proofs.RisingLaws.{Distinct, rising, perm_rising, RisingFrom, rises, rising_rises, lower, Before, none_before, its_rank, one_before}
use Rattle.tenants.proofs.GroupLaws.{same_sharing, shares_copy, copy_shares, group_test, of_one_group}

-- ---- portions

module _ (size members : ℕ) (some : 1 ≤ members) where
  abbrev even : ℕ
  even = size / members

  abbrev over : ℕ
  over = size % members

  portion_is : (rank : ℕ) → portion size members rank ≡ even + cond (ltb rank over) 1 0
  unfolding portion
  portion_is rank = rw (ne_eqb members 0 (λ e. omega arith))

  -- those of so many ranks, from one on
  unfoldable pub portions : ℕ → ℕ → ℕ
  portions rank zero = 0
  portions rank (suc n) = portion size members rank + portions (suc rank) n

  portions_are : (rank n : ℕ) → rank + n ≡ members → portions rank n ≡ n * even + (over - rank)
  unfolding portions
  portions_are rank zero e = let l : over < members = mod-lt size some in let z : 0 * even ≡ 0 = zero-mul even in omega arith
  portions_are rank (suc n) e =
      let rest = portions_are (suc rank) n (omega arith) in
      let own = portion_is rank in
      let more : suc n * even ≡ n * even + even = suc-mul n even in
      ⊎_elim
      (λ (l : rank < over). let t : portion size members rank ≡ even + 1 = own ∙ rw (lt-ltb rank over l) in omega (arith, rest, t, more))
      (λ (l : over ≤ rank). let t : portion size members rank ≡ even + 0 = own ∙ rw (le-ltb rank over l) in omega (arith, rest, t, more))
      (side rank over)

  pub all_portions : portions 0 members ≡ size
  all_portions = portions_are 0 members (omega arith) ∙ omega (arith, div-add-mod' size members, mul_comm members even)

  pub portion_near : (rank rank' : ℕ) → portion size members rank ≤ portion size members rank' + 1
  portion_near rank rank' = omega (arith, portion_is rank, portion_is rank', at_most_one (ltb rank over), at_most_one (ltb rank' over))

  pub portion_falls : (rank rank' : ℕ) → rank ≤ rank' → portion size members rank' ≤ portion size members rank
  portion_falls rank rank' l =
      ⊎_elim
      (λ (h : rank' < over).
      let t : portion size members rank ≡ even + 1 = portion_is rank ∙ rw (lt-ltb rank over (omega arith)) in
      omega (arith, t, portion_is rank', at_most_one (ltb rank' over)))
      (λ (h : over ≤ rank'). let t : portion size members rank' ≡ even + 0 = portion_is rank' ∙ rw (le-ltb rank' over h) in omega (arith, t, portion_is rank))
      (side rank' over)

-- ---- a sum over tenants

unfoldable pub total : (List ℕ → ℕ) → List (List ℕ) → ℕ
total share [] = 0
total share (t ∷ ts) = share t + total share ts

pub same_total : (share share' : List ℕ → ℕ) (ts : List (List ℕ)) → ((t : List ℕ) → Memᴰ t ts → share t ≡ share' t) → total share ts ≡ total share' ts
unfolding total
same_total share share' [] e = refl
same_total share share' (t ∷ ts) e = ap₂ (λ (m n : ℕ). m + n) (e t (Memᴰ.head refl)) (same_total share share' ts (λ u m. e u (Memᴰ.tail m)))

-- what those bear that a test picks, each by its rank among them
module _ (test : List ℕ → Bool) (size members : ℕ) (some : 1 ≤ members) (l : List (List ℕ)) where
  abbrev borne : List ℕ → ℕ
  borne t = cond (test t) (portion size members (counted (lower test (number_in t)) l)) 0

  ranks_borne : (low k : ℕ) (s : List (List ℕ)) → Before test l low k s → RisingFrom low s → total borne s ≡ portions size members some k (counted test s)
  unfolding total counted portions
  ranks_borne low k [] b r = refl
  ranks_borne low k (t ∷ s) b r =
      by_test (test t) (counted (lower test (number_in t)) l) (its_rank test l low k t s b r)
      (ranks_borne (suc (number_in t)) (k + cond (test t) 1 0) s (one_before test l low k t s b r) (rises r).1)
    where
      by_test : (c : Bool) (rank : ℕ) → rank ≡ k → total borne s ≡ portions size members some (k + cond c 1 0) (counted test s)
          → cond c (portion size members rank) 0 + total borne s ≡ portions size members some k (cond c 1 0 + counted test s)
      by_test true rank q rest =
          let o : 1 + counted test s ≡ suc (counted test s) = omega arith in
          let z : k + 1 ≡ suc k = omega arith in
          ap₂ (λ (m n : ℕ). m + n) (ap (portion size members) q) (rest ∙ ap (λ (j : ℕ). portions size members some j (counted test s)) z) ∙ sym (ap (portions size members some k) o)
      by_test false rank q rest =
          zero-add (total borne s) ∙ rest ∙ ap₂ (portions size members some) (add-zero k) (sym (zero-add (counted test s)))

-- fewer have a number below the lower of two
fewer_lower : (test : List ℕ → Bool) (number number' : ℕ) → number ≤ number' → (ts : List (List ℕ)) → counted (lower test number) ts ≤ counted (lower test number') ts
unfolding counted
fewer_lower test number number' h [] = omega arith
fewer_lower test number number' h (t ∷ ts) =
    let rest = fewer_lower test number number' h ts in
    ⊎_elim
    (λ (l : number_in t < number).
    let e : ◌≡◌ {A = ℕ} (cond (lower test number t) 1 0) (cond (lower test number' t) 1 0) = rw (lt-ltb (number_in t) number l, lt-ltb (number_in t) number' (omega arith)) in
    omega arith)
    (λ (l : number ≤ number_in t).
    let e : ◌≡◌ {A = ℕ} (cond (lower test number t) 1 0) 0 = rw (le-ltb (number_in t) number l) in
    omega arith)
    (side (number_in t) number)

-- ---- the shares of a group

module _ (bits size : ℕ) (ts : List (List ℕ)) (d : Distinct ts) where
  -- a share, by the copy of another key with which it is one
  share_by : (key : ℕ) (u : List ℕ) → AgreeIn bits key (key_in u)
      → share_of bits size ts u ≡ portion size (counted (sharing bits key) ts) (counted (lower (sharing bits key) (number_in u)) ts)
  share_by key u e =
      let same : (t : List ℕ) → sharing bits key t ≡ sharing bits (key_in u) t = same_sharing bits key (key_in u) e in
      sym (ap₂ (portion size)
      (same_count (sharing bits key) (sharing bits (key_in u)) same ts)
      (same_count (lower (sharing bits key) (number_in u)) (sharing_below bits (key_in u) (number_in u)) (λ t. ap (λ (b : Bool). ltb (number_in t) (number_in u) && b) (same t)) ts))

  module _ {t : List ℕ} (m : Memᴰ t ts) where
    abbrev test : List ℕ → Bool
    test = sharing bits (key_in t)

    pub some_members : 1 ≤ counted test ts
    some_members = counted_member test m (copy_shares bits (key_in t) t refl)

    -- all that is borne of the copy of its group
    pub group_total : total (λ u. cond (eqb (group_of bits ts u) (group_of bits ts t)) (share_of bits size ts u) 0) (rising ts) ≡ size
    group_total =
        let p = perm_rising ts in
        let members = counted test ts in
        same_total (λ u. cond (eqb (group_of bits ts u) (group_of bits ts t)) (share_of bits size ts u) 0) (borne test size members some_members (rising ts)) (rising ts) (λ u n. one-share u n)
        ∙ ranks_borne test size members some_members (rising ts) 0 0 (rising ts) (none_before test (rising ts)) (rising_rises ts d)
        ∙ ap (portions size members some_members 0) (sym (perm_count test p)) ∙ all_portions size members some_members
      where
        by_test : (u : List ℕ) (c : Bool) → test u ≡ c
            → cond c (share_of bits size ts u) 0 ≡ cond c (portion size (counted test ts) (counted (lower test (number_in u)) (rising ts))) 0
        by_test u true e =
            share_by (key_in t) u (shares_copy bits (key_in t) u e) ∙ ap (portion size (counted test ts)) (perm_count (lower test (number_in u)) (perm_rising ts))
        by_test u false e = refl

        one-share : (u : List ℕ) → Memᴰ u (rising ts)
            → cond (eqb (group_of bits ts u) (group_of bits ts t)) (share_of bits size ts u) 0 ≡ borne test size (counted test ts) some_members (rising ts) u
        one-share u n =
            ap (λ (b : Bool). cond b (share_of bits size ts u) 0) (group_test bits ts m (perm_member (Permᴰ.symm (perm_rising ts)) n) d) ∙ by_test u (test u) refl

  -- two of one group
  module _ {t u : List ℕ} (m : Memᴰ t ts) (n : Memᴰ u ts) (g : group_of bits ts t ≡ group_of bits ts u) where
    pub shares_near : share_of bits size ts t ≤ share_of bits size ts u + 1
    shares_near =
        let e = of_one_group bits ts m n d g in
        rw (share_by (key_in t) u e, share_by (key_in t) t refl) (portion_near size (counted (sharing bits (key_in t)) ts) (some_members m) _ _)

    pub shares_fall : number_in t < number_in u → share_of bits size ts u ≤ share_of bits size ts t
    shares_fall l =
        let e = of_one_group bits ts m n d g in
        rw (share_by (key_in t) u e, share_by (key_in t) t refl)
        (portion_falls size (counted (sharing bits (key_in t)) ts) (some_members m) _ _ (fewer_lower (sharing bits (key_in t)) (number_in t) (number_in u) (omega arith) ts))
