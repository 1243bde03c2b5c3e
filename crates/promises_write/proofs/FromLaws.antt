-- A container from a place on: what is read there is read in the bytes from there on. Assumes nothing.
use Prim.Native.Nat.{ℕ, ◌+◌, ◌-◌, ◌*◌, ◌^◌, ◌≤◌, ◌<◌}
use mathlib.Core.Path.{◌≡◌, refl, sym, ap, ap₂, ◌∙◌}
use mathlib.Core.List.{List, ◌++◌}
use native.Mathlib.Omega.{arith}
use lib.ListN.{length, take, drop, length-append}
use lib.Seq.{get_or-drop, drop-drop, drop_at}
use borrow.Author.Tests.{le-leb, lt-leb}
use mathlib.Core.Logic.{⊎_elim}
use Rattle.laws.specs.Lists.{at}
use Rattle.laws.proofs.Side.{side}
use Rattle.word.specs.Numbers.{be16, be32}
use Rattle.part.specs.Parts.{part_at}
use Rattle.signature.specs.Signatures.{same_bytes, stands_at}

-- s has these bytes from p on, and no others
pub record From (s : List ℕ) (p : ℕ) (rest : List ℕ) : Type 0 where
  pub is : drop p s ≡ rest
  pub ends : p + length rest ≡ length s

pub from_start : (s : List ℕ) → From s 0 s
from_start s = record { is = refl; ends = omega arith }

pub from_next : {s : List ℕ} {p : ℕ} (some rest : List ℕ) → From s p (some ++ rest) → From s (p + length some) rest
from_next {s} {p} some rest f =
    record {
      is = sym (drop-drop (length some) p s) ∙ ap (drop (length some)) f.is ∙ drop_at some rest (length some) refl;
      ends = omega (arith, f.ends, length-append some rest);
    }

pub from_as : {s : List ℕ} {p q : ℕ} {rest others : List ℕ} → From s p rest → p ≡ q → rest ≡ others → From s q others
from_as f e g = rw (e, g) at f

module _ {s : List ℕ} {p : ℕ} {rest : List ℕ} (f : From s p rest) where
  pub left_is : length s - p ≡ length rest
  left_is = omega (arith, f.ends)

  -- m is the place of byte k of the rest
  module _ (m k : ℕ) (e : m ≡ p + k) where
    pub at_is : at s m ≡ at rest k
    at_is = ap (at s) e ∙ sym (get_or-drop p s k 0) ∙ ap (λ (l : List ℕ). at l k) f.is

    pub drop_is : drop m s ≡ drop k rest
    drop_is = ap (λ (n : ℕ). drop n s) e ∙ sym (drop-drop k p s) ∙ ap (drop k) f.is

    pub part_is : (n : ℕ) → part_at s m n ≡ part_at rest k n
    part_is n =
        ⊎_elim
        (λ (h : length rest < k + n). rw (lt-leb (m + n) (length s) (omega (arith, f.ends)), lt-leb (k + n) (length rest) h))
        (λ (h : k + n ≤ length rest). rw (le-leb (m + n) (length s) (omega (arith, f.ends)), le-leb (k + n) (length rest) h) (ap (take n) drop_is))
        (side (length rest) (k + n))

    pub stands_is : (marker : List ℕ) → stands_at marker s m ≡ stands_at marker rest k
    stands_is marker = ap (λ (l : List ℕ). same_bytes l marker) (part_is (length marker))

  pub be16_is : (m k : ℕ) → m ≡ p + k → be16 s m ≡ be16 rest k
  be16_is m k e = ap₂ (λ (x y : ℕ). x * 2 ^ 8 + y) (at_is m k e) (at_is (m + 1) (k + 1) (omega arith))

  pub be32_is : (m k : ℕ) → m ≡ p + k → be32 s m ≡ be32 rest k
  be32_is m k e = ap₂ (λ (x y : ℕ). x * 2 ^ 16 + y) (be16_is m k e) (be16_is (m + 2) (k + 2) (omega arith))
