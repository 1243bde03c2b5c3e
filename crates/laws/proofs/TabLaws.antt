-- A list given position by position: its length, its bytes, and that it is the only one with them. Assumes nothing.
use mathlib.Core.Path.{◌≡◌, refl, sym, ap, ◌∙◌}
use mathlib.Core.List.{List}
use Prim.Native.Nat.{ℕ, zero, suc, ◌<◌}
use native.Mathlib.Nat.{not-suc-le-zero, le_of_suc-le-suc}
use native.Mathlib.Omega.{arith}
use lib.ListN.{length}
use lib.Seq.{ext_get_or}
use Rattle.laws.specs.Lists.{tab, at}

pub tab_length : (f : ℕ → ℕ) (n : ℕ) → length (tab f n) ≡ n
unfolding tab
tab_length f zero = refl
tab_length f (suc n) = ap suc (tab_length (λ i. f (suc i)) n)

pub tab_at : (f : ℕ → ℕ) (n i : ℕ) → i < n → at (tab f n) i ≡ f i
unfolding tab
tab_at f zero i h = absurd (not-suc-le-zero h)
tab_at f (suc n) zero h = refl
tab_at f (suc n) (suc i) h = tab_at (λ i. f (suc i)) n i (le_of_suc-le-suc h)

pub tab_ext : (f : ℕ → ℕ) (n : ℕ) (l : List ℕ) → length l ≡ n → ((i : ℕ) → i < n → at l i ≡ f i) → l ≡ tab f n
tab_ext f n l e h =
    ext_get_or 0 l (tab f n) (e ∙ sym (tab_length f n))
    (λ i k. let k' : i < n = omega arith in h i k' ∙ sym (tab_at f n i k'))
