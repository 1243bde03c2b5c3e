-- Which causes a table, its columns and its cells can be refused for: answer by answer, from the leaves on. Assumes nothing.
use Rattle.std.specs.Prelude.{Option, Some, None, Result, Ok, Err}
use Rattle.refusal.specs.declared.Refusal.{Refusal}
use Rattle.column.specs.declared.Column.{Column}
use Prim.Native.Nat.{ℕ, zero, suc, ◌+◌, ◌-◌, ◌%◌}
use mathlib.Core.Path.{◌≡◌, refl}
use mathlib.Core.Bool.{Bool, true, false, not, cond}
use mathlib.Core.List.{List}
use lib.ListN.{length, drop}
use lib.Dec.{ltb, leb, eqb}
use Rattle.laws.specs.Lists.{at}
use Rattle.word.specs.Numbers.{be16, be32}
use Rattle.refusal.specs.declared.Cause.{Cause}
use Rattle.reading.specs.declared.TableMode.{TableMode}
use Rattle.layout.specs.declared.Layout.{Layout}
use Rattle.layout.specs.Layouts.{counted_in, layout_in, body_of}
use Rattle.cell.specs.declared.Cell.{Cell}
use Rattle.cell.specs.declared.Cell.TheVariants.{Nothing}
use Rattle.cell.specs.Types.{Kind, u8, i8, u16, i16, u32, i32, u64, f32, text, blob, unknown, kind_of, width_of}
use Rattle.cell.specs.Parts.{end_of, text_to, data_at}
use Rattle.cell.specs.Cells.{value_at, cell_at, zero_cell}
use Rattle.column.specs.declared.Storage.{Storage}
use Rattle.column.specs.declared.Storage.TheVariants.{Constant, Stored, Zero, Unknown}
use Rattle.column.specs.Storages.{storage_of, in_record, in_row, constant_at, cell_in}
use Rattle.column.specs.Columns.{column_of, column_from, named, column_at}
use Rattle.table.specs.Walks.{after_column, columns_from, after_cell, row_from, after_walk, rows_from, walk_of}
use Rattle.table.specs.Tables.{table_to, table_from, table_of, table_at}
use Rattle.table.specs.Promises.{is_of_atable}

abbrev pub Fair : Cause → Type 0
Fair why = is_of_atable why ≡ true

-- ---- an answer that is refused for such a cause, if it is

abbrev pub FairCell : Result Cell Cause → Type 0
FairCell (Ok cell) = Unit
FairCell (Err why) = Fair why

abbrev FairColumn : Result Column Cause → Type 0
FairColumn (Ok column) = Unit
FairColumn (Err why) = Fair why

abbrev FairWalk : Result ℕ Cause → Type 0
FairWalk (Ok q) = Unit
FairWalk (Err why) = Fair why

abbrev FairLayout : Result Layout Cause → Type 0
FairLayout (Ok l) = Unit
FairLayout (Err why) = Fair why

abbrev pub FairTable : ℕ → Result Layout Refusal → Type 0
FairTable place (Ok l) = Unit
FairTable place (Err refusal) = Fair refusal.cause × (refusal.place ≡ place)

-- either way of a test
pub either : {A : Type 0} (Holds : A → Type 0) (t : Bool) (x y : A) → Holds x → Holds y → Holds (cond t x y)
either Holds true x y h k = h
either Holds false x y h k = k

-- ---- cells

text_fair : (start : ℕ) (ending : Option ℕ) → FairCell (text_to start ending)
text_fair start (Some z) = tt
text_fair start None = refl

data_fair : (body : List ℕ) (place size : ℕ) → FairCell (data_at body place size)
data_fair body place size =
    either FairCell (eqb size 0) _ _ tt (either FairCell (ltb place 24) _ _ refl (either FairCell (leb (place - 24 + size) (length body)) _ _ tt refl))

value_fair : (kind : Kind) (body : List ℕ) (p : ℕ) (l : Layout) → FairCell (value_at kind body p l)
unfolding value_at
value_fair u8 body p l = tt
value_fair i8 body p l = tt
value_fair u16 body p l = tt
value_fair i16 body p l = tt
value_fair u32 body p l = tt
value_fair i32 body p l = tt
value_fair u64 body p l = tt
value_fair f32 body p l = tt
value_fair text body p l = text_fair (l.strings + be32 body p - 24) (end_of body (l.strings + be32 body p))
value_fair blob body p l = data_fair body (l.blobs + be32 body p) (be32 body (p + 4))
value_fair unknown body p l = tt

cell_fair : (body : List ℕ) (k p : ℕ) (l : Layout) → FairCell (cell_at body k p l)
unfolding cell_at
cell_fair body k p l =
    either FairCell (eqb (width_of k) 0) _ _ refl (either FairCell (leb (p + width_of k) (length body)) _ _ (value_fair (kind_of k) body p l) refl)

zero_fair : (k : ℕ) → FairCell (zero_cell k)
unfolding zero_cell
zero_fair k = either FairCell (eqb (width_of k) 0) _ _ refl tt

-- ---- columns

constant_fair : (b : List ℕ) (storage : Storage) (k p : ℕ) (l : Layout) → FairCell (constant_at b storage k p l)
constant_fair b Constant k p l = cell_fair b k p l
constant_fair b Stored k p l = tt
constant_fair b Zero k p l = tt
constant_fair b Unknown k p l = refl

pub cell_in_fair : (b : List ℕ) (storage : Storage) (constant : Cell) (k p : ℕ) (l : Layout) → FairCell (cell_in b storage constant k p l)
cell_in_fair b Constant constant k p l = tt
cell_in_fair b Stored constant k p l = cell_fair b k p l
cell_in_fair b Zero constant k p l = zero_fair k
cell_in_fair b Unknown constant k p l = refl

column_of_fair : (name : ℕ) (storage : Storage) (kind next : ℕ) (x : Result Cell Cause) → FairCell x → FairColumn (column_of name storage kind next x)
column_of_fair name storage kind next (Ok cell) h = tt
column_of_fair name storage kind next (Err why) h = h

named_fair : (b : List ℕ) (p name : ℕ) (l : Layout) (ending : Option ℕ) → FairColumn (named b p name l ending)
unfolding named column_from
named_fair b p name l (Some z) =
    column_of_fair name (storage_of l.mode (at b p)) (at b p % 16) (p + in_record l.mode (at b p)) (constant_at b (storage_of l.mode (at b p)) (at b p % 16) (p + 5) l)
    (constant_fair b (storage_of l.mode (at b p)) (at b p % 16) (p + 5) l)
named_fair b p name l None = refl

column_fair : (b : List ℕ) (p : ℕ) (l : Layout) → FairColumn (column_at b p l)
unfolding column_at
column_fair b p l =
    either FairColumn (leb (p + 5) (length b)) _ _ (named_fair b p (l.strings + be32 b (p + 1)) l (end_of b (l.strings + be32 b (p + 1)))) refl

-- ---- tables

after_column_lem : (k : ℕ → Result ℕ Cause) → ((p : ℕ) → FairWalk (k p)) → (x : Result Column Cause) → FairColumn x → FairWalk (after_column k x)
after_column_lem k rest (Ok column) h = rest column.next
after_column_lem k rest (Err why) h = h

columns_fair : (b : List ℕ) (l : Layout) (n p : ℕ) → FairWalk (columns_from b l n p)
unfolding columns_from
columns_fair b l zero p = tt
columns_fair b l (suc n) p = after_column_lem (columns_from b l n) (columns_fair b l n) (column_at b p l) (column_fair b p l)

after_cell_lem : (w : Result ℕ Cause) → FairWalk w → (x : Result Cell Cause) → FairCell x → FairWalk (after_cell w x)
after_cell_lem w h (Ok cell) k = h
after_cell_lem w h (Err why) k = k

row_fair : (b : List ℕ) (l : Layout) (n p q : ℕ) → FairWalk (row_from b l n p q)
unfolding row_from
row_fair b l zero p q = tt
row_fair b l (suc n) p q =
    after_cell_lem _ (row_fair b l n (p + in_record l.mode (at b p)) (q + in_row l.mode (at b p)))
    (cell_in b (storage_of l.mode (at b p)) Nothing (at b p % 16) q l) (cell_in_fair b (storage_of l.mode (at b p)) Nothing (at b p % 16) q l)

after_walk_lem : (k : ℕ → Result ℕ Cause) → ((q : ℕ) → FairWalk (k q)) → (x : Result ℕ Cause) → FairWalk x → FairWalk (after_walk k x)
after_walk_lem k rest (Ok q) h = rest q
after_walk_lem k rest (Err why) h = h

rows_fair : (b : List ℕ) (l : Layout) (n q : ℕ) → FairWalk (rows_from b l n q)
unfolding rows_from
rows_fair b l zero q = tt
rows_fair b l (suc n) q = after_walk_lem (rows_from b l n) (rows_fair b l n) (row_from b l l.columns 0 q) (row_fair b l l.columns 0 q)

walk_fair : (b : List ℕ) (l : Layout) → FairWalk (walk_of b l)
unfolding walk_of
walk_fair b l = after_walk_lem (λ p. rows_from b l l.rows l.start) (λ p. rows_fair b l l.rows l.start) (columns_from b l l.columns 0) (columns_fair b l l.columns 0)

counted_fair : (t : List ℕ) (m : TableMode) (size : ℕ) → FairLayout (counted_in t m size)
unfolding counted_in
counted_fair t m size = either FairLayout (ltb 64 (be16 t 24)) _ _ refl (either FairLayout (ltb 256 (be32 t 28)) _ _ refl tt)

layout_fair : (t : List ℕ) (m : TableMode) → FairLayout (layout_in t m)
unfolding layout_in
layout_fair t m =
    either FairLayout (ltb (length t) 4) _ _ refl
    (either FairLayout (not (eqb (be32 t 0) 0x40555446)) _ _ refl
    (either FairLayout (ltb (length t) 32) _ _ refl
    (either FairLayout (ltb (be32 t 4) 24) _ _ refl
    (either FairLayout (ltb (length t) (32 + (be32 t 4 - 24))) _ _ refl (counted_fair t m (be32 t 4 - 24))))))

to_fair : (place : ℕ) (l : Layout) (x : Result ℕ Cause) → FairWalk x → FairTable place (table_to place l x)
to_fair place l (Ok q) h = tt
to_fair place l (Err why) h = (h, refl)

from_fair : (place : ℕ) (t : List ℕ) (x : Result Layout Cause) → FairLayout x → FairTable place (table_from place t x)
from_fair place t (Ok l) h = to_fair place l (walk_of (body_of t l) l) (walk_fair (body_of t l) l)
from_fair place t (Err why) h = (h, refl)

pub table_fair : (bytes : List ℕ) (place : ℕ) (m : TableMode) → FairTable place (table_at bytes place m)
unfolding table_of
table_fair bytes place m = from_fair place (drop place bytes) (layout_in (drop place bytes) m) (layout_fair (drop place bytes) m)
