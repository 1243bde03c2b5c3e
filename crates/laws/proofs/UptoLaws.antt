-- A list that is written from its front on: the invariant of a loop that writes bytes by their positions, with a law for each way to go on. Assumes nothing.
use mathlib.Core.Path.{◌≡◌, refl, sym, ap, subst, ◌∙◌}
use mathlib.Core.Logic.{⊎_elim}
use mathlib.Core.List.{List, ◌++◌}
use Prim.Native.Nat.{ℕ, ◌+◌, ◌-◌, ◌≤◌, ◌<◌}
use native.Mathlib.Nat.{not-suc-le-zero}
use native.Mathlib.Omega.{arith}
use lib.ListN.{length, take, drop, set, length-set, length-append, length-drop}
use lib.Seq.{ext_get_or, get_or-set_same, get_or-set_other, get_or-take, get_or-drop, length-take-le}
use Rattle.laws.specs.Lists.{tab, at}
use Rattle.laws.proofs.Side.{side}
use Rattle.laws.proofs.TabLaws.{tab_ext}
use Rattle.laws.proofs.SpliceLaws.{at_left, at_right, splice_length, splice_below, splice_in, splice_above}

-- s is s₀ with the bytes below k as f says, and the others as they were
pub record Upto (f : ℕ → ℕ) (s₀ s : List ℕ) (k : ℕ) : Type 0 where
  pub len : length s ≡ length s₀
  pub below : (p : ℕ) → p < k → at s p ≡ f p
  pub above : (p : ℕ) → k ≤ p → at s p ≡ at s₀ p

pub upto_to : {f : ℕ → ℕ} {s₀ s : List ℕ} {k n : ℕ} → Upto f s₀ s k → k ≡ n → Upto f s₀ s n
upto_to {f} {s₀} {s} u q = subst (λ (m : ℕ). Upto f s₀ s m) q u

module _ (f : ℕ → ℕ) (s₀ : List ℕ) where
  -- nothing is written yet, and below k nothing has to be
  pub upto_start : (k : ℕ) → ((p : ℕ) → p < k → at s₀ p ≡ f p) → Upto f s₀ s₀ k
  upto_start k h = record { len = refl; below = h; above = λ p _. refl }

  pub upto_none : Upto f s₀ s₀ 0
  upto_none = upto_start 0 (λ p l. absurd (not-suc-le-zero l))

  pub upto_end : (s : List ℕ) (k n : ℕ) → Upto f s₀ s k → length s₀ ≡ n → n ≤ k → s ≡ tab f n
  upto_end s k n u e h = tab_ext f n s (u.len ∙ e) (λ i l. u.below i (omega arith))

  -- one byte is stored
  pub upto_set : (s : List ℕ) (k v : ℕ) → Upto f s₀ s k → k < length s → v ≡ f k → Upto f s₀ (set s k v) (k + 1)
  upto_set s k v u h e =
      record {
        len = length-set s k v ∙ u.len;
        below = λ p l. ⊎_elim (λ (b : p < k). get_or-set_other s k p v 0 (λ q. omega arith) ∙ u.below p b)
            (λ (b : k ≤ p). let q : p ≡ k = omega arith in rw q (get_or-set_same s k v 0 h ∙ e)) (side p k);
        above = λ p l. get_or-set_other s k p v 0 (λ q. omega arith) ∙ u.above p (omega arith);
      }

  -- the bytes up to n stay
  pub upto_over : (s : List ℕ) (k n : ℕ) → Upto f s₀ s k → k ≤ n → ((p : ℕ) → k ≤ p → p < n → at s₀ p ≡ f p) → Upto f s₀ s n
  upto_over s k n u h e =
      record {
        len = u.len;
        below = λ p l. ⊎_elim (λ (b : p < k). u.below p b) (λ (b : k ≤ p). u.above p b ∙ e p b l) (side p k);
        above = λ p l. u.above p (omega arith);
      }

  -- a byte stays
  pub upto_skip : (s : List ℕ) (k : ℕ) → Upto f s₀ s k → at s₀ k ≡ f k → Upto f s₀ s (k + 1)
  upto_skip s k u e = upto_over s k (k + 1) u (omega arith) (λ p h l. let q : p ≡ k = omega arith in rw q e)

  -- the part from i to e, which reaches back to i, becomes y
  pub upto_part : (s y : List ℕ) (i k e : ℕ) → Upto f s₀ s k → i ≤ k → k ≤ e → e ≤ length s → length y ≡ e - i
      → ((j : ℕ) → j < e - i → at y j ≡ f (i + j))
      → Upto f s₀ (take i s ++ (y ++ drop (e - i) (drop i s))) e
  upto_part s y i k e u back h l ly g =
      record {
        len = splice_length s y i e (omega arith) l ly ∙ u.len;
        below = λ p m. ⊎_elim (λ (b : p < i). splice_below s y i e (omega arith) l ly p b ∙ u.below p (omega arith))
            (λ (b : i ≤ p).
            let w : i + (p - i) ≡ p = omega arith in
            splice_in s y i e (omega arith) l ly p b m ∙ g (p - i) (omega arith) ∙ ap f w)
            (side p i);
        above = λ p m. splice_above s y i e (omega arith) l ly p m ∙ u.above p (omega arith);
      }

-- what was written are the first n of a list
pub upto_written : (l s₀ s : List ℕ) (n : ℕ) → Upto (at l) s₀ s n → n ≤ length l → n ≤ length s₀ → s ≡ take n l ++ drop n s₀
upto_written l s₀ s n u h k =
    let front : length (take n l) ≡ n = length-take-le n l h in
    ext_get_or 0 s (take n l ++ drop n s₀) (u.len ∙ simp (length-append, length-drop) (omega arith))
    (λ p _.
    ⊎_elim (λ (b : p < n). u.below p b ∙ sym (at_left (take n l) (drop n s₀) n p front b ∙ get_or-take n l p 0 b))
    (λ (b : n ≤ p).
    let w : n + (p - n) ≡ p = omega arith in
    u.above p b ∙ sym (at_right (take n l) (drop n s₀) n p front b ∙ get_or-drop n s₀ (p - n) 0 ∙ ap (at s₀) w))
    (side p n))
