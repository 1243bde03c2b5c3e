-- A table that is accepted has no name, constant or cell that is refused: its walk would have stopped there. Assumes nothing.
use Rattle.std.specs.Prelude.{Option, Some, None, Result, Ok, Err}
use Rattle.cell.specs.declared.Cell.{Cell}
use Rattle.refusal.specs.declared.Cause.{Cause}
use mathlib.Core.Path.{◌≡◌, refl}
use mathlib.Core.List.{List}
use mathlib.Core.Bool.{Bool, true, false, cond}
use Prim.Native.Nat.{ℕ, zero, suc, ◌+◌, ◌%◌, ◌≤◌}
use native.Mathlib.Omega.{arith}
use lib.ListN.{length}
use lib.Dec.{leb}
use borrow.Author.Tests.{le-leb, leb-true}
use Rattle.laws.specs.Lists.{at}
use Rattle.word.specs.Numbers.{be32}
use Rattle.refusal.specs.declared.Cause.TheVariants.{RanOut}
use Rattle.layout.specs.declared.Layout.{Layout}
use Rattle.cell.specs.declared.Cell.TheVariants.{Nothing}
use Rattle.cell.specs.Parts.{end_of}
use Rattle.cell.specs.Cells.{value_at, cell_at}
use Rattle.column.specs.declared.Storage.{Storage}
use Rattle.column.specs.declared.Storage.TheVariants.{Constant, Stored, Zero, Unknown}
use Rattle.column.specs.Storages.{storage_of, in_record, in_row, constant_at, cell_in}
use Rattle.column.specs.Columns.{column_of, column_from, named, column_at}
use Rattle.table.specs.Walks.{after_column, columns_from, after_cell, row_from, after_walk, rows_from, walk_of}
use Rattle.table.specs.Tables.{table_to}
use Rattle.table_csv.specs.declared.Line.TheVariants.{Names, Cells}
use Rattle.table_csv.specs.Texts.{with_constant, row_cell, row_end}
use Rattle.table_csv.specs.Promises.{IsRead, LineIsRead, RowsAreRead}

-- where and by which layout a table is accepted; k is what comes after a walk
module _ (place : ℕ) (l : Layout) (b : List ℕ) where
  -- ---- a column

  -- the constant of the column whose record stands at body byte p
  abbrev constant : ℕ → Result Cell Cause
  constant p = constant_at b (storage_of l.mode (at b p)) (at b p % 16) (p + 5) l

  by_constant : (name p next : ℕ) (k w : _) (x : Result Cell Cause)
      → table_to place l (after_walk k (after_column w (column_of name (storage_of l.mode (at b p)) (at b p % 16) next x))) ≡ Ok l
      → IsRead x × (table_to place l (after_walk k (w next)) ≡ Ok l)
  by_constant name p next k w (Ok c) e = (tt, e)
  by_constant name p next k w (Err why) e = let z : ◌≡◌ {A = ℕ} 0 1 = cc in absurd (omega arith)

  -- its name, read as a string is
  name_read : (p z : ℕ) → p + 5 ≤ length b → end_of b (l.strings + be32 b (p + 1)) ≡ Some z → IsRead (cell_at b 0x0A (p + 1) l)
  unfolding cell_at value_at
  name_read p z room e = rw (le-leb (p + 1 + 4) (length b) (omega arith), e) tt

  module _ (p : ℕ) where
    abbrev name : ℕ
    name = l.strings + be32 b (p + 1)

    by_name : p + 5 ≤ length b → (k w : _) (x : Option ℕ) → end_of b name ≡ x → table_to place l (after_walk k (after_column w (named b p name l x))) ≡ Ok l
        → IsRead (cell_at b 0x0A (p + 1) l) × IsRead (constant p) × (table_to place l (after_walk k (w (p + in_record l.mode (at b p)))) ≡ Ok l)
    unfolding named column_from
    by_name room k w (Some z) f e =
        let follows = by_constant name p (p + in_record l.mode (at b p)) k w (constant p) e in
        (name_read p z room f, follows.0, follows.1)
    by_name room k w None f e = let z : ◌≡◌ {A = ℕ} 0 1 = cc in absurd (omega arith)

    by_room : (k w : _) (t : Bool) → leb (p + 5) (length b) ≡ t → table_to place l (after_walk k (after_column w (cond t (named b p name l (end_of b name)) (Err RanOut)))) ≡ Ok l
        → IsRead (cell_at b 0x0A (p + 1) l) × IsRead (constant p) × (table_to place l (after_walk k (w (p + in_record l.mode (at b p)))) ≡ Ok l)
    by_room k w true t e = by_name (leb-true (p + 5) (length b) t) k w (end_of b name) refl e
    by_room k w false t e = let z : ◌≡◌ {A = ℕ} 0 1 = cc in absurd (omega arith)

    column_read : (k w : _) → table_to place l (after_walk k (after_column w (column_at b p l))) ≡ Ok l
        → IsRead (cell_at b 0x0A (p + 1) l) × IsRead (constant p) × (table_to place l (after_walk k (w (p + in_record l.mode (at b p)))) ≡ Ok l)
    unfolding column_at
    column_read k w e = by_room k w (leb (p + 5) (length b)) refl e

  -- ---- all columns

  -- the constants of n columns, whose records stand from body byte p on
  ConstantsAreRead : ℕ → ℕ → Type 0
  ConstantsAreRead zero p = Unit
  ConstantsAreRead (suc n) p = IsRead (constant p) × ConstantsAreRead n (p + in_record l.mode (at b p))

  columns_read : (n p q : ℕ) (k : _) → table_to place l (after_walk k (columns_from b l n p)) ≡ Ok l
      → LineIsRead b l Names n p q × ConstantsAreRead n p × ((r : ℕ) × (table_to place l (k r) ≡ Ok l))
  unfolding columns_from LineIsRead ConstantsAreRead
  columns_read zero p q k e = (tt, tt, (p, e))
  columns_read (suc n) p q k e =
      let column = column_read p k (columns_from b l n) e in
      let rest = columns_read n (p + in_record l.mode (at b p)) (q + in_row l.mode (at b p)) k column.2 in
      ((column.0, rest.0), (column.1, rest.1), rest.2)

  -- ---- rows

  by_cell : (k w : _) (x : Result Cell Cause) → table_to place l (after_walk k (after_cell w x)) ≡ Ok l → IsRead x × (table_to place l (after_walk k w) ≡ Ok l)
  by_cell k w (Ok c) e = (tt, e)
  by_cell k w (Err why) e = let z : ◌≡◌ {A = ℕ} 0 1 = cc in absurd (omega arith)

  held : (x : Result Cell Cause) → IsRead x → IsRead (with_constant (λ c. Ok c) x)
  held (Ok c) h = tt
  held (Err why) h = h

  by_storage : (s : Storage) (kind p q : ℕ) → IsRead (constant_at b s kind p l) → IsRead (cell_in b s Nothing kind q l)
      → IsRead (with_constant (λ c. cell_in b s c kind q l) (constant_at b s kind p l))
  by_storage Constant kind p q h g = held (cell_at b kind p l) h
  by_storage Stored kind p q h g = g
  by_storage Zero kind p q h g = g
  by_storage Unknown kind p q h g = h

  row_read : (n p q : ℕ) (k : _) → ConstantsAreRead n p → table_to place l (after_walk k (row_from b l n p q)) ≡ Ok l
      → LineIsRead b l Cells n p q × (table_to place l (k (row_end b l n p q)) ≡ Ok l)
  unfolding row_from LineIsRead ConstantsAreRead row_cell row_end
  row_read zero p q k c e = (tt, e)
  row_read (suc n) p q k c e =
      let s = storage_of l.mode (at b p) in
      let next = row_from b l n (p + in_record l.mode (at b p)) (q + in_row l.mode (at b p)) in
      let cell = by_cell k next (cell_in b s Nothing (at b p % 16) q l) e in
      let rest = row_read n (p + in_record l.mode (at b p)) (q + in_row l.mode (at b p)) k c.1 cell.1 in
      ((by_storage s (at b p % 16) (p + 5) q c.0 cell.0, rest.0), rest.1)

  rows_read : ConstantsAreRead l.columns 0 → (n q : ℕ) → table_to place l (rows_from b l n q) ≡ Ok l → RowsAreRead b l n q
  unfolding rows_from RowsAreRead
  rows_read c zero q e = tt
  rows_read c (suc n) q e =
      let row = row_read l.columns 0 q (rows_from b l n) c e in
      (row.0, rows_read c n (row_end b l l.columns 0 q) row.1)

  pub all_read : table_to place l (walk_of b l) ≡ Ok l → LineIsRead b l Names l.columns 0 0 × RowsAreRead b l l.rows l.start
  unfolding walk_of
  all_read e =
      let columns = columns_read l.columns 0 0 (λ p. rows_from b l l.rows l.start) e in
      (columns.0, rows_read columns.1 l.rows l.start columns.2.1)
