-- A position lies below a bound, or not. Assumes nothing.
use mathlib.Core.Path.{◌≡◌, refl}
use mathlib.Core.Bool.{Bool, true, false}
use mathlib.Core.Logic.{◌⊎◌, inl, inr}
use Prim.Native.Nat.{ℕ, ◌≤◌, ◌<◌}
use lib.Dec.{ltb}
use borrow.Author.Tests.{ltb-true, ltb-false}

by_test : (p k : ℕ) (b : Bool) → ltb p k ≡ b → (p < k) ⊎ (k ≤ p)
by_test p k true e = inl (ltb-true p k e)
by_test p k false e = inr (ltb-false p k e)

pub side : (p k : ℕ) → (p < k) ⊎ (k ≤ p)
side p k = by_test p k (ltb p k) refl
