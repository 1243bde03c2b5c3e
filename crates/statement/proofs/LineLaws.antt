-- Lines put into a list one after the other: those before a rank, with those from there on, are all. Assumes nothing.
use Prim.Native.Nat.{ℕ, zero, suc, ◌+◌, ◌≤◌, ◌<◌}
use mathlib.Core.Path.{◌≡◌, refl, sym, ap, ◌∙◌}
use mathlib.Core.List.{List}
use native.Mathlib.Omega.{arith}
use native.Mathlib.Numerals.{add-one}
use lib.ListN.{length, set}
use lib.Seq.{sets, length-sets}
use Rattle.tenants.specs.Shares.{lines_from}

-- so many lines are left to be put
pub record Putting (line : ℕ → List ℕ) (n : ℕ) (start : List (List ℕ)) (rank : ℕ) (lines : List (List ℕ)) : Type 0 where
  pub left : ℕ
  pub all : rank + left ≡ n
  pub whole : sets lines rank (lines_from line rank left) ≡ sets start 0 (lines_from line 0 n)

module _ (line : ℕ → List ℕ) (n : ℕ) (start : List (List ℕ)) where
  pub putting_starts : Putting line n start 0 start
  putting_starts = record { left = n; all = omega arith; whole = refl }

  module _ (rank : ℕ) (lines : List (List ℕ)) (so_far : Putting line n start rank lines) where
    pub putting_length : length lines ≡ length start
    putting_length = sym (length-sets lines rank (lines_from line rank so_far.left)) ∙ ap length so_far.whole ∙ length-sets start 0 (lines_from line 0 n)

    pub putting_next : rank < n → Putting line n start (rank + 1) (set lines rank (line rank))
    unfolding lines_from
    putting_next l = by_left so_far.left so_far.all so_far.whole
      where
        by_left : (left : ℕ) → rank + left ≡ n → sets lines rank (lines_from line rank left) ≡ sets start 0 (lines_from line 0 n)
            → Putting line n start (rank + 1) (set lines rank (line rank))
        by_left zero all whole = absurd (omega arith)
        by_left (suc left) all whole = record { left = left; all = omega arith; whole = rw add-one whole }

    pub putting_over : n ≤ rank → lines ≡ sets start 0 (lines_from line 0 n)
    unfolding lines_from
    putting_over l = let none : so_far.left ≡ 0 = omega (arith, so_far.all) in rw none at so_far.whole
