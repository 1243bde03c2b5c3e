-- Loops that count tenants: those counted before i, with those from i on, are all. Assumes nothing.
use Prim.Native.Nat.{ℕ, ◌+◌, ◌≤◌, ◌<◌}
use mathlib.Core.Path.{◌≡◌, refl, ap, ◌∙◌}
use mathlib.Core.Bool.{Bool, true, false, cond}
use mathlib.Core.List.{List, [], ◌∷◌}
use native.Mathlib.Omega.{arith}
use native.Mathlib.Numerals.{add-one}
use lib.ListN.{length, get_or, drop}
use lib.Seq.{drop-cons, drop-length}
use mir.Val.{bool_byte}
use Rattle.tenants.specs.Tenants.{counted}
use Rattle.tenants.proofs.ChainLaws.{at_most_one}

as_bit : (b : Bool) → bool_byte b ≡ cond b 1 0
as_bit true = refl
as_bit false = refl

-- a loop stands at i
module _ (tenants : List (List ℕ)) (i : ℕ) where
  none_after : i ≤ length tenants → length tenants ≤ i → drop i tenants ≡ []
  none_after h l = let e : i ≡ length tenants = omega arith in rw e (drop-length tenants)

  next : (d : List ℕ) → i < length tenants → drop i tenants ≡ get_or tenants i d ∷ drop (i + 1) tenants
  next d l = rw (add-one, drop-cons tenants i d)

-- n tenants before i were counted
pub record Counting (test : List ℕ → Bool) (tenants : List (List ℕ)) (i n : ℕ) : Type 0 where
  pub inside : i ≤ length tenants
  pub few : n ≤ i
  pub whole : n + counted test (drop i tenants) ≡ counted test tenants

module _ (test : List ℕ → Bool) (tenants : List (List ℕ)) where
  pub counting_starts : Counting test tenants 0 0
  counting_starts = record { inside = omega arith; few = omega arith; whole = omega arith }

  module _ (i n : ℕ) (so_far : Counting test tenants i n) where
    pub counting_next : (d : List ℕ) (one : ℕ) → i < length tenants → one ≡ cond (test (get_or tenants i d)) 1 0 → Counting test tenants (i + 1) (n + one)
    unfolding counted
    counting_next d one l e =
        let c : counted test (drop i tenants) ≡ cond (test (get_or tenants i d)) 1 0 + counted test (drop (i + 1) tenants) = rw (next tenants i d l) in
        let few : one ≤ 1 = rw e (at_most_one (test (get_or tenants i d))) in
        record { inside = omega arith; few = omega (arith, so_far.few); whole = omega (arith, c, e, so_far.whole) }

    -- the one is a test's answer as a number
    pub counting_bit : (d : List ℕ) (one : ℕ) (b : Bool) → i < length tenants → one ≡ bool_byte b → b ≡ test (get_or tenants i d) → Counting test tenants (i + 1) (n + one)
    counting_bit d one b l e t = counting_next d one l (e ∙ as_bit b ∙ ap (λ (x : Bool). cond x 1 0) t)

    pub counting_over : length tenants ≤ i → (n ≡ counted test tenants) × (n ≤ length tenants)
    unfolding counted
    counting_over l =
        let c : counted test (drop i tenants) ≡ 0 = rw (none_after tenants i so_far.inside l) in
        (omega (arith, c, so_far.whole), omega (arith, so_far.few, so_far.inside))
