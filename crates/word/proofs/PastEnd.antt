-- A byte past the end is 0, so zeros may follow what is left. Assumes nothing.
use Rattle.std.proofs.Common.{◌≡◌, ℕ, ◌+◌, ◌≤◌, ◌<◌, Bool, true, false, List, ◌++◌, length, drop, replicate, refl, sym, ap, ◌∙◌, arith}
use Rattle.std.specs.Prelude.{eqb, set, get_or}
use Rattle.std.proofs.lemmas.List.{get_or-set_other}
use Rattle.std.proofs.lemmas.Grind.{get_or-set_at}
use borrow.Author.Tests.{eqb-true, eqb-false}
use Rattle.std.proofs.Math.ListN.{get_or-eq_default}
use Rattle.std.proofs.lemmas.Grind.{common_steps}
use Rattle.laws.specs.Lists.{at}

pub past_end : (bytes : List ℕ) (p : ℕ) → length bytes ≤ p → at bytes p ≡ 0
past_end bytes p h = get_or-eq_default bytes 0 h

pub zeros_after : (bytes : List ℕ) (p n k : ℕ) → k < n → at (drop p bytes ++ drop (length (drop p bytes)) (replicate n 0)) k ≡ at bytes (p + k)
zeros_after bytes p n k h = grind (arith, common_steps, past_end)

-- one byte more stands where it stood
pub one_more : (xs bytes : List ℕ) (k v : ℕ) → k < length xs → v ≡ at bytes k → ((j : ℕ) → j < k → get_or xs j 0 ≡ at bytes j)
    → (j : ℕ) → j < k + 1 → get_or (set xs k v) j 0 ≡ at bytes j
one_more xs bytes k v l e f j h = by_place (eqb j k) refl
  where
    by_place : (b : Bool) → eqb j k ≡ b → get_or (set xs k v) j 0 ≡ at bytes j
    by_place true t = let p : j ≡ k = eqb-true j k t in get_or-set_at xs k j v 0 p l ∙ e ∙ ap (at bytes) (sym p)
    by_place false t = let p : j ≡ k → ⊥ = eqb-false j k t in get_or-set_other xs k j v 0 p ∙ f j (omega (arith, p))
