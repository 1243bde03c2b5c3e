-- A list with other bytes for its part from i to e, as a slice comes back when that part was lent. Assumes nothing.
use mathlib.Core.Path.{◌≡◌, ap, ◌∙◌}
use mathlib.Core.List.{List, ◌++◌}
use Prim.Native.Nat.{ℕ, ◌+◌, ◌-◌, ◌≤◌, ◌<◌}
use native.Mathlib.Omega.{arith}
use lib.ListN.{length, take, drop, length-append, length-take, length-drop, get_or-append}
use lib.Seq.{get_or-take, get_or-drop, get_or-append-add, length-take-le}
use Rattle.laws.specs.Lists.{at}

-- past the first list, the second
pub at_right : (xs ys : List ℕ) (n p : ℕ) → length xs ≡ n → n ≤ p → at (xs ++ ys) p ≡ at ys (p - n)
at_right xs ys n p e h =
    let q : p ≡ length xs + (p - n) = omega arith in
    ap (λ (m : ℕ). at (xs ++ ys) m) q ∙ get_or-append-add xs ys (p - n) 0

pub at_left : (xs ys : List ℕ) (n p : ℕ) → length xs ≡ n → p < n → at (xs ++ ys) p ≡ at xs p
at_left xs ys n p e h = get_or-append xs ys 0 p (omega arith)

-- a byte of a part
pub part_at_lem : (s : List ℕ) (i e j : ℕ) → j < e - i → at (take (e - i) (drop i s)) j ≡ at s (i + j)
part_at_lem s i e j h = get_or-take (e - i) (drop i s) j 0 h ∙ get_or-drop i s j 0

pub part_length : (s : List ℕ) (i e : ℕ) → e ≤ length s → length (take (e - i) (drop i s)) ≡ e - i
part_length s i e h = simp (length-take, length-drop) (omega arith)

-- s, with y for its part from i to e
module _ (s y : List ℕ) (i e : ℕ) (h : i ≤ e) (k : e ≤ length s) (ly : length y ≡ e - i) where
  front : length (take i s) ≡ i
  front = length-take-le i s (omega arith)

  pub splice_length : length (take i s ++ (y ++ drop (e - i) (drop i s))) ≡ length s
  splice_length = simp (length-append, length-take, length-drop) (omega arith)

  pub splice_below : (p : ℕ) → p < i → at (take i s ++ (y ++ drop (e - i) (drop i s))) p ≡ at s p
  splice_below p l = at_left (take i s) _ i p front l ∙ get_or-take i s p 0 l

  pub splice_in : (p : ℕ) → i ≤ p → p < e → at (take i s ++ (y ++ drop (e - i) (drop i s))) p ≡ at y (p - i)
  splice_in p l m = at_right (take i s) _ i p front l ∙ at_left y _ (e - i) (p - i) ly (omega arith)

  pub splice_above : (p : ℕ) → e ≤ p → at (take i s ++ (y ++ drop (e - i) (drop i s))) p ≡ at s p
  splice_above p l =
      at_right (take i s) _ i p front (omega arith) ∙ at_right y _ (e - i) (p - i) ly (omega arith)
      ∙ get_or-drop (e - i) (drop i s) (p - i - (e - i)) 0 ∙ get_or-drop i s ((e - i) + (p - i - (e - i))) 0
      ∙ ap (at s) (omega arith)
