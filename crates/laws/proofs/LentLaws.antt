-- A part of an output that is lent to a call comes back with what the call left there: what is copied in and changed there is stored changed.
-- Assumes nothing.
use Prim.Native.Nat.{ℕ, ◌+◌, ◌-◌, ◌≤◌}
use mathlib.Core.Path.{◌≡◌, ap, ap₂, ◌∙◌}
use mathlib.Core.List.{List, ◌++◌, append-nil, append_assoc}
use native.Mathlib.Omega.{arith}
use lib.ListN.{length, take, drop, length-append, length-take, length-drop, drop_of_length-le}
use lib.Seq.{sets, sets-eq, length-sets, take-length, drop-drop, length-take-le, take_at, drop_at}
use borrow.Rule.Slice.PartMut.{put_mid, mid_of}

-- `◌++◌` groups to the left, and what a part leaves to the right
stores : (ys out : List ℕ) (at : ℕ) → at + length ys ≤ length out → sets out at ys ≡ take at out ++ (ys ++ drop (at + length ys) out)
stores ys out at h = sets-eq ys out at h ∙ append_assoc (take at out) ys (drop (at + length ys) out)

-- a part of k elements that comes back as ys
module _ (out ys : List ℕ) (at k : ℕ) (e : length ys ≡ k) (h : at + k ≤ length out) where
  g : at + length ys ≤ length out
  g = omega arith

  -- the list that comes back
  put_mid_lem : put_mid at k out ys ≡ sets out at ys
  put_mid_lem = let f : at + length ys ≡ at + k = omega arith in rw (stores ys out at g, drop-drop, f)

  -- what stands there afterwards
  mid_sets : mid_of at k (sets out at ys) ≡ ys
  mid_sets =
      rw (stores ys out at g, drop_at (take at out) (ys ++ drop (at + length ys) out) at (length-take-le at out (omega arith)), take_at ys (drop (at + length ys) out) k e)

  -- stores over stores
  sets_sets : (zs : List ℕ) → length zs ≡ length ys → sets (sets out at ys) at zs ≡ sets out at zs
  sets_sets zs n =
      let l : length (sets out at ys) ≡ length out = length-sets out at ys in
      let a : at + length zs ≤ length (sets out at ys) = omega arith in
      let b : at + length zs ≤ length out = omega arith in
      let c : length (take at out) ≡ at = length-take-le at out (omega arith) in
      let t : take at (sets out at ys) ≡ take at out = rw (stores ys out at g) (take_at (take at out) (ys ++ drop (at + length ys) out) at c) in
      let f : length (take at out ++ ys) ≡ at + length ys = length-append (take at out) ys ∙ ap (λ (m : ℕ). m + length ys) c in
      let d : drop (at + length ys) (sets out at ys) ≡ drop (at + length ys) out =
      rw (sets-eq ys out at g) (drop_at (take at out ++ ys) (drop (at + length ys) out) (at + length ys) f) in
      rw (stores zs (sets out at ys) at a, stores zs out at b, t, n, d)

-- bytes that are copied into the part, and changed there
module _ (bytes out ys : List ℕ) (at : ℕ) (fits : at + length bytes ≤ length out) where
  abbrev k : ℕ
  k = at + length bytes - at

  module _ (copied : ys ≡ bytes) where
    n : length bytes ≡ k
    n = omega arith

    h : at + k ≤ length out
    h = omega arith

    pub put_copied : put_mid at k out ys ≡ sets out at bytes
    put_copied = ap (put_mid at k out) copied ∙ put_mid_lem out bytes at k n h

    pub put_changed : (change : List ℕ → List ℕ) (keeps : (p : List ℕ) → length (change p) ≡ length p) (zs : List ℕ) → zs ≡ change (mid_of at k (put_mid at k out ys))
        → put_mid at k (put_mid at k out ys) zs ≡ sets out at (change bytes)
    put_changed change keeps zs changed =
        let z : zs ≡ change bytes = changed ∙ ap change (ap (mid_of at k) put_copied ∙ mid_sets out bytes at k n h) in
        let l : length (change bytes) ≡ k = keeps bytes ∙ n in
        let i : at + k ≤ length (sets out at bytes) = omega (arith, length-sets out at bytes) in
        ap₂ (put_mid at k) put_copied z ∙ put_mid_lem (sets out at bytes) (change bytes) at k l i ∙ sets_sets out bytes at k n h (change bytes) (keeps bytes)
