-- The promises of specs/Promises.antt, each under its name: a number that stands at two places is counted twice, and the other way round. Assumes nothing.
use Prim.Native.Nat.{ℕ, zero, suc, ◌+◌, ◌≤◌, ◌<◌}
use mathlib.Core.Path.{◌≡◌, refl, sym, ◌∙◌}
use mathlib.Core.Logic.{⊎_elim}
use mathlib.Core.Bool.{Bool, true, false, ◌||◌}
use mathlib.Core.List.{List, [], ◌∷◌}
use native.Mathlib.Omega.{arith}
use lib.ListN.{length, get_or}
use lib.Dec.{ltb, eqb}
use borrow.Author.Tests.{le-ltb, eq-eqb, ne_eqb, ltb-false, eqb-true, eqb-false}
use Rattle.laws.proofs.Side.{side}
use Rattle.tenants.specs.Tenants.{number_in, counted, is_repeated, repeated, has_number}
use Rattle.tenants.specs.Promises as promised
use Rattle.tenants.specs.Promises.{OneToSixteen}
use Rattle.tenants.proofs.RisingLaws.{Distinct, distinct}

all_false : (a b c : Bool) → a || (b || c) ≡ false → (a ≡ false) × (b ≡ false) × (c ≡ false)
all_false true b c e = let z : ◌≡◌ {A = ℕ} 0 1 = cc in absurd (omega arith)
all_false false true c e = let z : ◌≡◌ {A = ℕ} 0 1 = cc in absurd (omega arith)
all_false false false c e = (refl, refl, e)

-- ---- a number that stands at two places is counted twice

module _ (number : ℕ) where
  abbrev times : List (List ℕ) → ℕ
  times ts = counted (has_number number) ts

  its_own : (t : List ℕ) (ts : List (List ℕ)) → number_in t ≡ number → times (t ∷ ts) ≡ 1 + times ts
  unfolding counted
  its_own t ts e = rw (eq-eqb (number_in t) number e)

  no_fewer : (t : List ℕ) (ts : List (List ℕ)) → times ts ≤ times (t ∷ ts)
  unfolding counted
  no_fewer t ts = omega arith

  once_there : (ts : List (List ℕ)) (j : ℕ) → j < length ts → number_in (get_or ts j []) ≡ number → 1 ≤ times ts
  once_there [] j h e = absurd (omega arith)
  once_there (t ∷ ts) zero h e = omega (arith, its_own t ts e)
  once_there (t ∷ ts) (suc j) h e = omega (arith, no_fewer t ts, once_there ts j (omega arith) e)

  twice_there : (ts : List (List ℕ)) (i j : ℕ) → i < j → j < length ts → number_in (get_or ts i []) ≡ number → number_in (get_or ts j []) ≡ number → 2 ≤ times ts
  twice_there [] i j l h e f = absurd (omega arith)
  twice_there (t ∷ ts) i zero l h e f = absurd (omega arith)
  twice_there (t ∷ ts) zero (suc j) l h e f = omega (arith, its_own t ts e, once_there ts j (omega arith) f)
  twice_there (t ∷ ts) (suc i) (suc j) l h e f = omega (arith, no_fewer t ts, twice_there ts i j (omega arith) (omega arith) e f)

  -- one that stands nowhere is not counted
  not_there : (ts : List (List ℕ)) → ((j : ℕ) → j < length ts → number_in (get_or ts j []) ≡ number → ⊥) → times ts ≡ 0
  unfolding counted
  not_there [] n = refl
  not_there (t ∷ ts) n =
      let other : eqb (number_in t) number ≡ false = ne_eqb (number_in t) number (n 0 (omega arith)) in
      let rest = not_there ts (λ j h. n (suc j) (omega arith)) in
      rw (other, rest)

abbrev Different : List (List ℕ) → Type 0
Different ts = (i j : ℕ) → i < j → j < length ts → number_in (get_or ts i []) ≡ number_in (get_or ts j []) → ⊥

of_different : (ts : List (List ℕ)) → Different ts → Distinct ts
unfolding counted
of_different [] d number = omega arith
of_different (t ∷ ts) d number = by_own (of_different ts (λ i j l h f. d (suc i) (suc j) (omega arith) (omega arith) f) number) (eqb (number_in t) number) refl
  where
    by_own : counted (has_number number) ts ≤ 1 → (b : Bool) → eqb (number_in t) number ≡ b → counted (has_number number) (t ∷ ts) ≤ 1
    by_own rest true e =
        let none = not_there number ts (λ j h f. d 0 (suc j) (omega arith) (omega arith) (eqb-true (number_in t) number e ∙ sym f)) in
        rw (e, none) (omega arith)
    by_own rest false e = rw e (omega arith)

none_repeated : (ts : List (List ℕ)) → Distinct ts → (s : List (List ℕ)) → counted (is_repeated ts) s ≡ 0
unfolding counted
none_repeated ts d [] = refl
none_repeated ts d (t ∷ s) = rw (le-ltb 1 (counted (has_number (number_in t)) ts) (d (number_in t)), none_repeated ts d s)

-- ---- the promise

pub GoodExactlyWhenDifferent : promised.GoodExactlyWhenDifferent
GoodExactlyWhenDifferent tenants = (
  λ e.
      let tests = all_false (eqb (length tenants) 0) (ltb 16 (length tenants)) (repeated tenants) e in
      let none : length tenants ≡ 0 → ⊥ = eqb-false (length tenants) 0 tests.0 in
      let d = distinct tenants tests.2 in
      record {
        some = ⊎_elim (λ (l : length tenants < 1). absurd (none (omega arith))) (λ (l : 1 ≤ length tenants). l) (side (length tenants) 1);
        few = ltb-false 16 (length tenants) tests.1;
        different = λ i j l h f.
            omega (arith, twice_there (number_in (get_or tenants j [])) tenants i j l h f refl, d (number_in (get_or tenants j [])));
      },
  λ g.
      let d = of_different tenants g.different in
      let fresh : repeated tenants ≡ false = le-ltb 0 (counted (is_repeated tenants) tenants) (omega (arith, none_repeated tenants d tenants)) in
      rw (ne_eqb (length tenants) 0 (λ z. omega (arith, g.some)), le-ltb 16 (length tenants) g.few, fresh),
)
