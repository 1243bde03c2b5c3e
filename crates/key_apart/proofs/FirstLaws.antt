-- The first position that a test picks: found one by one, and what it is. Assumes nothing.
use Prim.Native.Nat.{ℕ, zero, suc, ◌+◌, ◌%◌, ◌≤◌, ◌<◌}
use mathlib.Core.Path.{◌≡◌, refl, sym, ap}
use mathlib.Core.Logic.{⊎_elim}
use mathlib.Core.Bool.{Bool, true, false, cond, not, ◌&&◌}
use mathlib.Core.List.{List}
use native.Mathlib.Omega.{arith}
use native.Mathlib.Numerals.{add-one}
use lib.Dec.{eqb}
use borrow.Author.Tests.{eq-eqb}
use Rattle.laws.specs.Lists.{at}
use Rattle.laws.proofs.Side.{side}
use Rattle.key.specs.declared.Keys.{Keys}
use Rattle.key.specs.KeyTable.{table_t, keys_of}
use Rattle.key.specs.CountingBits.{counting_bits}
use Rattle.key.proofs.Promises.{OneTableExactlyWhenOneNumber}
use Rattle.unmasking.specs.declared.Mask.{Mask}
use Rattle.key_apart.specs.PayloadsApart.{differs_in, is_masked_in, parts_at, first_by, apart_in}

-- ---- found one by one

-- none before p was picked, and so many are left
pub record Looking (test : ℕ → Bool) (len p : ℕ) : Type 0 where
  pub left : ℕ
  pub all : p + left ≡ len
  pub whole : first_by test p left ≡ first_by test 0 len

module _ (test : ℕ → Bool) (len : ℕ) where
  pub looking_starts : Looking test len 0
  looking_starts = record { left = len; all = omega arith; whole = refl }

  module _ (p : ℕ) (so_far : Looking test len p) where
    -- what is found from p on
    by_left : (b : Bool) → test p ≡ b → p < len → (left : ℕ) → p + left ≡ len → first_by test p left ≡ first_by test 0 len
        → cond b (p ≡ first_by test 0 len) (Looking test len (p + 1))
    unfolding first_by
    by_left b e l zero all whole = absurd (omega arith)
    by_left true e l (suc left) all whole = rw e at whole
    by_left false e l (suc left) all whole = record { left = left; all = omega arith; whole = rw add-one (rw e at whole) }

    pub looking_found : p < len → test p ≡ true → p ≡ first_by test 0 len
    looking_found l e = by_left true e l so_far.left so_far.all so_far.whole

    pub looking_next : p < len → test p ≡ false → Looking test len (p + 1)
    looking_next l e = by_left false e l so_far.left so_far.all so_far.whole

    pub looking_over : len ≤ p → p ≡ first_by test 0 len
    unfolding first_by
    looking_over l = let none : so_far.left ≡ 0 = omega (arith, so_far.all) in rw none at so_far.whole

-- ---- what it is

-- n is the first of some positions that a test picks, or the one after them
pub record First (test : ℕ → Bool) (from past n : ℕ) : Type 0 where
  pub within : n ≤ past
  pub before : (p : ℕ) → from ≤ p → p < n → test p ≡ false
  pub here : n < past → test n ≡ true

pub first_is : (test : ℕ → Bool) (p n : ℕ) → First test p (p + n) (first_by test p n)
unfolding first_by
first_is test p zero = record { within = omega arith; before = λ i h k. absurd (omega arith); here = λ h. absurd (omega arith) }
first_is test p (suc n) = by_test (test p) refl (first_is test (suc p) n)
  where
    by_test : (b : Bool) → test p ≡ b → First test (suc p) (suc p + n) (first_by test (suc p) n) → First test p (p + suc n) (cond b p (first_by test (suc p) n))
    by_test true e rest = record { within = omega arith; before = λ i h k. absurd (omega arith); here = λ h. e }
    by_test false e rest = record {
      within = omega (arith, rest.within);
      before = λ i h k. ⊎_elim (λ (l : i < suc p). let q : i ≡ p = omega arith in rw q e) (λ (l : suc p ≤ i). rest.before i l k) (side i (suc p));
      here = λ h. rest.here (omega arith);
    }

-- a test that picks nothing
pub none_first : (test : ℕ → Bool) → ((p : ℕ) → test p ≡ false) → (p n : ℕ) → first_by test p n ≡ p + n
unfolding first_by
none_first test none p zero = omega arith
none_first test none p (suc n) = rw (none p) (let r = none_first test none (suc p) n in omega (arith, r))

and_not : (b c : Bool) → c ≡ true → b && not c ≡ false
and_not true true e = refl
and_not true false e = let z : ◌≡◌ {A = ℕ} 0 1 = cc in absurd (omega arith)
and_not false c e = refl

-- two keys with one T part nowhere
pub one_table : (mask : Mask) (t u : List ℕ) → t ≡ u → (n : ℕ) → first_by (parts_at mask t u) 0 n ≡ n
one_table mask t u e n =
    let r = none_first (parts_at mask t u) (λ p. and_not (differs_in mask p) (eqb (at t (p % 0x20)) (at u (p % 0x20))) (eq-eqb (at t (p % 0x20)) (at u (p % 0x20)) (ap (λ (l : List ℕ). at l (p % 0x20)) e))) 0 n in
    omega (arith, r)

-- ---- each answer on a payload

module _ (mask : Mask) (key other len : ℕ) where
  pub apart_found : (keys others : Keys) → keys ≡ keys_of key → others ≡ keys_of other → is_masked_in mask len ≡ true
      → (r : ℕ) → r ≡ first_by (parts_at mask keys.t others.t) 0 len → r ≡ apart_in mask key other len
  unfolding apart_in keys_of
  apart_found keys others k o m r e = rw m (rw (k, o) at e)

  pub apart_same : is_masked_in mask len ≡ true → counting_bits key ≡ counting_bits other → len ≡ apart_in mask key other len
  unfolding apart_in
  apart_same m e = rw m (sym (one_table mask (table_t key) (table_t other) ((OneTableExactlyWhenOneNumber key other).1 e) len))

  pub apart_clear : is_masked_in mask len ≡ false → len ≡ apart_in mask key other len
  unfolding apart_in
  apart_clear m = rw m
