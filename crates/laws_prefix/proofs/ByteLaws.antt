-- Bytes, numbers, parts and markers that lie in a list s are the same in s with more behind it. Assumes nothing.
use Prim.Native.Nat.{ℕ, ◌+◌, ◌*◌, ◌^◌, ◌≤◌, ◌<◌}
use mathlib.Core.Path.{◌≡◌, ap, ap₂}
use mathlib.Core.List.{List, ◌++◌}
use native.Mathlib.Omega.{arith}
use lib.ListN.{length, take, drop, length-append, length-drop, get_or-append}
use lib.Seq.{take-append-le, drop-append-le}
use borrow.Author.Tests.{le-leb}
use Rattle.laws.specs.Lists.{at}
use Rattle.word.specs.Numbers.{be16, be32}
use Rattle.part.specs.Parts.{part_at}
use Rattle.signature.specs.Signatures.{same_bytes, stands_at}

module _ (s more : List ℕ) where
  pub longer : length (s ++ more) ≡ length s + length more
  longer = length-append s more

  pub at_kept : (p : ℕ) → p < length s → at (s ++ more) p ≡ at s p
  at_kept p h = get_or-append s more 0 p h

  pub be16_kept : (p : ℕ) → p + 2 ≤ length s → be16 (s ++ more) p ≡ be16 s p
  be16_kept p h = ap₂ (λ (x y : ℕ). x * 2 ^ 8 + y) (at_kept p (omega arith)) (at_kept (p + 1) (omega arith))

  pub be32_kept : (p : ℕ) → p + 4 ≤ length s → be32 (s ++ more) p ≡ be32 s p
  be32_kept p h = ap₂ (λ (x y : ℕ). x * 2 ^ 16 + y) (be16_kept p (omega arith)) (be16_kept (p + 2) (omega arith))

  pub taken_kept : (p n : ℕ) → p + n ≤ length s → take n (drop p (s ++ more)) ≡ take n (drop p s)
  taken_kept p n h =
      let room : n ≤ length (drop p s) = simp length-drop (omega arith) in
      rw (drop-append-le p s more (omega arith), take-append-le n (drop p s) more room)

  pub part_kept : (p n : ℕ) → p + n ≤ length s → part_at (s ++ more) p n ≡ part_at s p n
  part_kept p n h =
      let longest : p + n ≤ length (s ++ more) = omega (arith, longer) in
      rw (le-leb (p + n) (length s) h, le-leb (p + n) (length (s ++ more)) longest) (taken_kept p n h)

  pub stands_kept : (marker : List ℕ) (p : ℕ) → p + length marker ≤ length s → stands_at marker (s ++ more) p ≡ stands_at marker s p
  stands_kept marker p h = ap (λ (part : List ℕ). same_bytes part marker) (part_kept p (length marker) h)
