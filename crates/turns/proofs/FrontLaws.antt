-- What bytes begin with: one piece after the other, and as a list. Assumes nothing.
use Prim.Native.Nat.{ℕ, suc, ◌+◌, ◌≤◌, ◌<◌}
use mathlib.Core.Path.{◌≡◌, refl, sym, ap, ap₂, ◌∙◌}
use mathlib.Core.List.{List, [], ◌∷◌, ◌++◌}
use mathlib.Core.Bool.{Bool, true, false, ◌&&◌, and_assoc, and-true, and-false}
use mathlib.Core.Logic.{⊎_elim}
use native.Mathlib.Omega.{arith}
use lib.ListN.{length, take, drop, length-take, length-drop, length-append, take-append-drop}
use lib.Seq.{take_at, take_all, drop-drop, length-take-le}
use lib.Dec.{eqb}
use borrow.Author.Tests.{le-leb, lt-leb, eq-eqb, ne_eqb, eqb-true}
use Rattle.laws.proofs.Side.{side}
use Rattle.part.specs.Parts.{part_at}
use Rattle.signature.specs.Signatures.{same_bytes, stands_at}

-- bytes begin with a marker
abbrev pub front : List ℕ → List ℕ → Bool
front marker bytes = same_bytes (take (length marker) bytes) marker

-- lists of other lengths are not the same
pub other_lengths : (a b : List ℕ) → (length a ≡ length b → ⊥) → same_bytes a b ≡ false
unfolding same_bytes
other_lengths [] [] h = absurd (h refl)
other_lengths [] (y ∷ ys) h = refl
other_lengths (x ∷ xs) [] h = refl
other_lengths (x ∷ xs) (y ∷ ys) h = ap (λ (t : Bool). eqb x y && t) (other_lengths xs ys (λ e. h (ap suc e))) ∙ and-false (eqb x y)

-- ---- a marker that stands at a place is what the bytes from there on begin with

short : (marker bytes : List ℕ) → (0 < length marker → length bytes < length marker) → same_bytes [] marker ≡ front marker bytes
unfolding same_bytes
short [] bytes h = refl
short (m ∷ ms) bytes h =
    sym (other_lengths (take (length (m ∷ ms)) bytes) (m ∷ ms) (λ e. omega (arith, e, length-take (length (m ∷ ms)) bytes, h (omega arith))))

pub stands_front : (marker bytes : List ℕ) (place : ℕ) → stands_at marker bytes place ≡ front marker (drop place bytes)
stands_front marker bytes place =
    ⊎_elim
    (λ (h : length bytes < place + length marker).
    rw (lt-leb (place + length marker) (length bytes) h) (short marker (drop place bytes) (λ k. rw length-drop (omega arith))))
    (λ (h : place + length marker ≤ length bytes). rw (le-leb (place + length marker) (length bytes) h)) (side (length bytes) (place + length marker))

-- ---- pieces

pub front_append : (x y bytes : List ℕ) → front (x ++ y) bytes ≡ (front x bytes && front y (drop (length x) bytes))
unfolding same_bytes
front_append [] y bytes = refl
front_append (a ∷ x) y [] = refl
front_append (a ∷ x) y (b ∷ bytes) =
    ap (λ (t : Bool). eqb b a && t) (front_append x y bytes) ∙ sym (and_assoc (eqb b a) (front x bytes) (front y (drop (length x) bytes)))

-- ---- lists that agree are one

pub both_true : (t u : Bool) → (t && u) ≡ true → (t ≡ true) × (u ≡ true)
both_true true u e = (refl, e)
both_true false u e = let z : ◌≡◌ {A = ℕ} 0 1 = cc in absurd (omega arith)

pub same_true : (a b : List ℕ) → same_bytes a b ≡ true → a ≡ b
unfolding same_bytes
same_true [] [] e = refl
same_true [] (y ∷ ys) e = let z : ◌≡◌ {A = ℕ} 0 1 = cc in absurd (omega arith)
same_true (x ∷ xs) [] e = let z : ◌≡◌ {A = ℕ} 0 1 = cc in absurd (omega arith)
same_true (x ∷ xs) (y ∷ ys) e =
    let both = both_true (eqb x y) (same_bytes xs ys) e in
    ap₂ (λ (h : ℕ) (t : List ℕ). h ∷ t) (eqb-true x y both.0) (same_true xs ys both.1)

pub same_self : (bytes : List ℕ) → same_bytes bytes bytes ≡ true
unfolding same_bytes
same_self [] = refl
same_self (byte ∷ bytes) = rw (eq-eqb byte byte refl, same_self bytes)

pub front_true : (marker bytes : List ℕ) → front marker bytes ≡ true → bytes ≡ marker ++ drop (length marker) bytes
front_true marker bytes e =
    sym (take-append-drop (length marker) bytes) ∙ ap (λ (l : List ℕ). l ++ drop (length marker) bytes) (same_true (take (length marker) bytes) marker e)

pub front_self : (marker rest : List ℕ) → front marker (marker ++ rest) ≡ true
front_self marker rest = rw (take_at marker rest (length marker) refl) (same_self marker)

pub front_part : (n : ℕ) (bytes : List ℕ) → n ≤ length bytes → front (take n bytes) bytes ≡ true
front_part n bytes h = rw (length-take-le n bytes h) (same_self (take n bytes))

pub front_fits : (marker bytes : List ℕ) → front marker bytes ≡ true → length marker ≤ length bytes
front_fits marker bytes e = omega (arith, ap length (front_true marker bytes e), length-append marker (drop (length marker) bytes))

-- ---- pieces at places

pub stands_then : (x y bytes : List ℕ) (place : ℕ) → stands_at (x ++ y) bytes place ≡ (stands_at x bytes place && stands_at y bytes (place + length x))
stands_then x y bytes place =
    stands_front (x ++ y) bytes place ∙ front_append x y (drop place bytes)
    ∙ ap₂ (λ (t u : Bool). t && u) (sym (stands_front x bytes place)) (ap (front y) (drop-drop (length x) place bytes) ∙ sym (stands_front y bytes (place + length x)))

-- a part stands where it is
pub part_stands : (bytes : List ℕ) (place n : ℕ) → stands_at (part_at bytes place n) bytes place ≡ true
unfolding same_bytes
part_stands bytes place n =
    stands_front (part_at bytes place n) bytes place
    ∙ ⊎_elim (λ (h : length bytes < place + n). rw (lt-leb (place + n) (length bytes) h))
    (λ (h : place + n ≤ length bytes). rw (le-leb (place + n) (length bytes) h) (front_part n (drop place bytes) (rw length-drop (omega arith)))) (side (length bytes) (place + n))

-- bytes are a list that they begin with, and that is as long
pub same_front : (bytes other : List ℕ) → same_bytes bytes other ≡ (stands_at other bytes 0 && eqb (length bytes) (length other))
same_front bytes other =
    ⊎_elim (λ (h : length bytes < length other). unlike (λ e. omega arith))
    (λ (h : length other ≤ length bytes).
    ⊎_elim (λ (k : length other < length bytes). unlike (λ e. omega arith))
    (λ (k : length bytes ≤ length other).
    rw (eq-eqb (length bytes) (length other) (omega arith), and-true (stands_at other bytes 0))
    (sym (stands_front other bytes 0 ∙ ap (λ (l : List ℕ). same_bytes l other) (take_all (length other) bytes k)))) (side (length other) (length bytes)))
    (side (length bytes) (length other)) where
      unlike : (length bytes ≡ length other → ⊥) → same_bytes bytes other ≡ (stands_at other bytes 0 && eqb (length bytes) (length other))
      unlike n = other_lengths bytes other n ∙ sym (ap (λ (t : Bool). stands_at other bytes 0 && t) (ne_eqb (length bytes) (length other) n) ∙ and-false (stands_at other bytes 0))
