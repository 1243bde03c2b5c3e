-- A text or data cell that is read lies within the body. Assumes nothing.
use Rattle.std.specs.Prelude.{Option, Some, None, Result, Ok, Err}
use Rattle.refusal.specs.declared.Cause.{Cause}
use mathlib.Core.Path.{◌≡◌, refl}
use mathlib.Core.List.{List}
use mathlib.Core.Bool.{Bool, true, false, cond}
use Prim.Native.Nat.{ℕ, ◌+◌, ◌-◌, ◌%◌, ◌^◌, ◌≤◌}
use native.Mathlib.Omega.{arith}
use lib.ListN.{length}
use lib.Dec.{eqb, leb, ltb}
use lib.Ieee.{binary32, of_bits}
use borrow.Author.Tests.{leb-true}
use Rattle.word.specs.Numbers.{be32}
use Rattle.refusal.specs.declared.Cause.TheVariants.{RanOut, UnknownType}
use Rattle.layout.specs.declared.Layout.{Layout}
use Rattle.cell.specs.declared.Cell.{Cell}
use Rattle.cell.specs.declared.Cell.TheVariants.{Nothing, Unsigned, Signed, Float, NotANumber, Text, Data}
use Rattle.cell.specs.Types.{Kind, u8, i8, u16, i16, u32, i32, u64, f32, text, blob, unknown, kind_of, width_of}
use Rattle.cell.specs.Parts.{end_of, text_to}
use Rattle.cell.specs.Cells.{value_at, cell_at, zero_of, zero_cell}
use Rattle.cell.proofs.Scan.{ended}

-- the part of a cell, if it has one, lies within the body
abbrev pub Inside : List ℕ → Cell → Type 0
Inside b Nothing = Unit
Inside b (Unsigned n) = Unit
Inside b (Signed z) = Unit
Inside b (Float x) = Unit
Inside b (NotANumber n) = Unit
Inside b (Text a n) = a + n ≤ length b
Inside b (Data a n) = a + n ≤ length b

-- the same of an answer: what is refused holds nothing
abbrev pub Kept : List ℕ → Result Cell Cause → Type 0
Kept b (Ok c) = Inside b c
Kept b (Err cause) = Unit

module _ (b : List ℕ) where
  text_kept : (place : ℕ) (x : Option ℕ) → end_of b place ≡ x → Kept b (text_to (place - 24) x)
  text_kept place None e = tt
  text_kept place (Some z) e = omega (arith, ended b place z e)

  data_kept : (t u r : Bool) (a n : ℕ) → leb (a + n) (length b) ≡ r
      → Kept b (cond t (Ok (Data 0 0)) (cond u (Err RanOut) (cond r (Ok (Data a n)) (Err RanOut))))
  data_kept true u r a n e = omega arith
  data_kept false true r a n e = tt
  data_kept false false true a n e = leb-true (a + n) (length b) e
  data_kept false false false a n e = tt

  float_kept : (t : Bool) (n : ℕ) → Kept b (Ok (cond t (Float (of_bits binary32 n)) (NotANumber n)))
  float_kept true n = tt
  float_kept false n = tt

  value_kept : (k : Kind) (p : ℕ) (l : Layout) → Kept b (value_at k b p l)
  unfolding value_at
  value_kept u8 p l = tt
  value_kept i8 p l = tt
  value_kept u16 p l = tt
  value_kept i16 p l = tt
  value_kept u32 p l = tt
  value_kept i32 p l = tt
  value_kept u64 p l = tt
  value_kept f32 p l = float_kept (leb (be32 b p % 2 ^ 31) 0x7F800000) (be32 b p)
  value_kept text p l = text_kept (l.strings + be32 b p) (end_of b (l.strings + be32 b p)) refl
  value_kept blob p l =
      let place = l.blobs + be32 b p in
      data_kept (eqb (be32 b (p + 4)) 0) (ltb place 24) (leb (place - 24 + be32 b (p + 4)) (length b)) (place - 24) (be32 b (p + 4)) refl
  value_kept unknown p l = tt

  pub cell_kept : (k p : ℕ) (l : Layout) → Kept b (cell_at b k p l)
  unfolding cell_at
  cell_kept k p l = go (eqb (width_of k) 0) (leb (p + width_of k) (length b))
    where
      go : (t u : Bool) → Kept b (cond t (Err (UnknownType k)) (cond u (value_at (kind_of k) b p l) (Err RanOut)))
      go true u = tt
      go false true = value_kept (kind_of k) p l
      go false false = tt

  zero_kept : (k : Kind) → Inside b (zero_of k)
  zero_kept u8 = tt
  zero_kept i8 = tt
  zero_kept u16 = tt
  zero_kept i16 = tt
  zero_kept u32 = tt
  zero_kept i32 = tt
  zero_kept u64 = tt
  zero_kept f32 = tt
  zero_kept text = omega arith
  zero_kept blob = omega arith
  zero_kept unknown = tt

  pub zero_cell_kept : (k : ℕ) → Kept b (zero_cell k)
  unfolding zero_cell
  zero_cell_kept k = go (eqb (width_of k) 0)
    where
      go : (t : Bool) → Kept b (cond t (Err (UnknownType k)) (Ok (zero_of (kind_of k))))
      go true = tt
      go false = zero_kept (kind_of k)
