-- A cell past the body's end is refused the same wherever it stands; and a cell of a table lies within the slice. Assumes nothing.
use Rattle.std.specs.Prelude.{Option, Some, None, Result, Ok, Err}
use Rattle.refusal.specs.declared.Cause.{Cause}
use mathlib.Core.Path.{◌≡◌, refl, sym, ◌∙◌}
use mathlib.Core.List.{List}
use mathlib.Core.Bool.{Bool, true, false, cond}
use Prim.Native.Nat.{ℕ, ◌+◌, ◌*◌, ◌≤◌, ◌<◌}
use native.Mathlib.Nat.{mul-le-mul, le_of_lt}
use native.Mathlib.Omega.{arith}
use lib.ListN.{length}
use lib.Dec.{eqb, leb}
use borrow.Author.Tests.{lt-leb, eqb-true, eqb-false}
use Rattle.refusal.specs.declared.Cause.TheVariants.{RanOut, UnknownType}
use Rattle.layout.specs.declared.Layout.{Layout}
use Rattle.cell.specs.declared.Cell.{Cell}
use Rattle.cell.specs.declared.Cell.TheVariants.{Nothing, Unsigned, Signed, Float, NotANumber, Text, Data}
use Rattle.cell.specs.Types.{kind_of, width_of}
use Rattle.cell.specs.Cells.{value_at, cell_at}
use Rattle.cell.proofs.BoundLaws.{Inside, Kept, cell_kept, zero_cell_kept}
use Rattle.column.specs.declared.Storage.{Storage}
use Rattle.column.specs.declared.Storage.TheVariants.{Constant, Stored, Zero, Unknown}
use Rattle.column.specs.declared.Column.{Column}
use Rattle.column.specs.Storages.{cell_in}
use Rattle.column.specs.Columns.{column_at}
use Rattle.column.proofs.BoundLaws.{column_kept}
use Rattle.lookup.specs.declared.Mark.{Mark}
use Rattle.lookup.specs.Search.{search_from}
use Rattle.lookup.specs.Lookups.{end_of_part, end_of_answer, shifted, moved, shift_in, column_cell, marked_cell, body_cell}

module _ (b : List ℕ) (k : ℕ) (l : Layout) where
  refused_past : (p : ℕ) → length b ≤ p → (t : Bool) → eqb (width_of k) 0 ≡ t
      → cond t (Err (UnknownType k)) (cond (leb (p + width_of k) (length b)) (value_at (kind_of k) b p l) (Err RanOut))
      ≡ cond t (Err (UnknownType k)) (Err RanOut)
  refused_past p h true e = refl
  refused_past p h false e =
      let some : width_of k ≡ 0 → ⊥ = eqb-false (width_of k) 0 e in
      let wide : 0 < width_of k = omega arith in
      rw (lt-leb (p + width_of k) (length b) (omega arith))

  pub past_the_body : (p q : ℕ) → length b ≤ p → length b ≤ q → cell_at b k p l ≡ cell_at b k q l
  unfolding cell_at
  past_the_body p q h i = refused_past p h (eqb (width_of k) 0) refl ∙ sym (refused_past q i (eqb (width_of k) 0) refl)

-- a row's place stays small
pub row_bound : (row width : ℕ) → row < 256 → width ≤ 16384 → row * width ≤ 256 * 16384
row_bound row width h k = mul-le-mul (le_of_lt h) k

-- ---- where a part ends

inside_end : (b : List ℕ) (c : Cell) → Inside b c → end_of_part c ≤ length b
inside_end b Nothing h = omega arith
inside_end b (Unsigned n) h = omega arith
inside_end b (Signed z) h = omega arith
inside_end b (Float x) h = omega arith
inside_end b (NotANumber n) h = omega arith
inside_end b (Text a n) h = h
inside_end b (Data a n) h = h

kept_end : (b : List ℕ) (x : Result Cell Cause) → Kept b x → end_of_answer x ≤ length b
kept_end b (Ok c) h = inside_end b c h
kept_end b (Err why) h = omega arith

-- a cell that is read ends within the body
pub cell_end : (b : List ℕ) (k p : ℕ) (l : Layout) → end_of_answer (cell_at b k p l) ≤ length b
cell_end b k p l = kept_end b (cell_at b k p l) (cell_kept b k p l)

data_end : (t : Bool) (by a n : ℕ) → eqb n 0 ≡ t → cond t 0 (by + a) + n ≤ by + (a + n)
data_end true by a n e = omega (arith, eqb-true n 0 e)
data_end false by a n e = omega arith

shifted_end : (by : ℕ) (c : Cell) → end_of_part (shifted by c) ≤ by + end_of_part c
shifted_end by Nothing = omega arith
shifted_end by (Unsigned n) = omega arith
shifted_end by (Signed z) = omega arith
shifted_end by (Float x) = omega arith
shifted_end by (NotANumber n) = omega arith
shifted_end by (Text a n) = omega arith
shifted_end by (Data a n) = data_end (eqb n 0) by a n refl

moved_end : (by : ℕ) (x : Result Cell Cause) → end_of_answer (moved by x) ≤ by + end_of_answer x
moved_end by (Ok c) = shifted_end by c
moved_end by (Err why) = omega arith

pub shift_le : (s : Storage) (by : ℕ) → shift_in s by ≤ by
shift_le Constant by = omega arith
shift_le Stored by = omega arith
shift_le Zero by = omega arith
shift_le Unknown by = omega arith

module _ (b : List ℕ) where
  in_kept : (x : Storage) (c : Cell) (k p : ℕ) (l : Layout) → Inside b c → Kept b (cell_in b x c k p l)
  in_kept Constant c k p l h = h
  in_kept Stored c k p l h = cell_kept b k p l
  in_kept Zero c k p l h = zero_cell_kept b k
  in_kept Unknown c k p l h = tt

  -- the cell of a column that was read ends within the body
  pub in_end : (entry p : ℕ) (l : Layout) (c : Column) → column_at b entry l ≡ Ok c → end_of_answer (cell_in b c.storage c.constant c.kind p l) ≤ length b
  in_end entry p l c e =
      let h : Inside b c.constant = rw e at (column_kept b entry l) in
      kept_end b (cell_in b c.storage c.constant c.kind p l) (in_kept c.storage c.constant c.kind p l h)

  column_cell_end : (by entry p : ℕ) (l : Layout) (x : Result Column Cause) → column_at b entry l ≡ x → end_of_answer (column_cell b by p l x) ≤ by + length b
  column_cell_end by entry p l (Ok c) e =
      omega (arith, moved_end (shift_in c.storage by) (cell_in b c.storage c.constant c.kind p l), shift_le c.storage by, in_end entry p l c e)
  column_cell_end by entry p l (Err cause) e = omega arith

  marked_end : (by p : ℕ) (l : Layout) (m : Option Mark) → end_of_answer (marked_cell b by p l m) ≤ by + length b
  marked_end by p l None = omega arith
  marked_end by p l (Some mark) = column_cell_end by mark.entry (p + mark.offset) l (column_at b mark.entry l) refl

  pub body_cell_end : (by : ℕ) (l : Layout) (name : List ℕ) (row : ℕ) → end_of_answer (body_cell b by l name row) ≤ by + length b
  unfolding body_cell
  body_cell_end by l name row =
      let found = search_from b l name l.columns 0 0 None in
      marked_end by (l.start + row * found.width) l found.mark
