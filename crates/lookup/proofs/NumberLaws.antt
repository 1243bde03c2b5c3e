-- A column after another, and each answer on a column by its number. Assumes nothing.
use Rattle.std.specs.Prelude.{Result, Ok, Err}
use Rattle.cell.specs.declared.Cell.{Cell}
use Prim.Native.Nat.{ℕ, ◌+◌, ◌*◌, ◌-◌, ◌≤◌, ◌<◌}
use mathlib.Core.Path.{◌≡◌, sym, ap}
use mathlib.Core.Bool.{true, false}
use mathlib.Core.List.{List}
use lib.ListN.{length, take, drop, length-drop}
use lib.Seq.{drop-drop}
use borrow.Author.Tests.{lt-ltb, le-ltb, ltb-true}
use native.Mathlib.Omega.{arith}
use native.Mathlib.Numerals.{add-one}
use Rattle.laws.specs.Lists.{at}
use Rattle.reading.specs.declared.TableMode.{TableMode}
use Rattle.refusal.specs.declared.Cause.{Cause}
use Rattle.refusal.specs.declared.Cause.TheVariants.{RanOut}
use Rattle.layout.specs.declared.Layout.{Layout}
use Rattle.layout.specs.Layouts.{layout_in, body_of}
use Rattle.layout.proofs.LayoutLaws.{short, sound}
use Rattle.cell.specs.declared.Cell.TheVariants.{Nothing}
use Rattle.cell.specs.Cells.{cell_at}
use Rattle.column.specs.Columns.{column_at}
use Rattle.table.proofs.TableLaws.{from_place}
use Rattle.column.specs.Storages.{in_record, in_row}
use Rattle.lookup.specs.declared.numbers.Line.{Line}
use Rattle.lookup.specs.declared.numbers.Line.TheVariants.{Names, Row}
use Rattle.lookup.specs.Lookups.{end_of_answer, moved, column_cell, placed}
use Rattle.lookup.specs.Numbers.{record_at, offset_at, on_line, line_cell, numbered_in, cell_by, tag_in, tag_by}
use Rattle.lookup.proofs.CellLaws.{cell_end}

module _ (b : List ℕ) (l : Layout) (i p x : ℕ) (e : p ≡ record_at b l i) (t : x ≡ at b p) where
  pub record_next : (r : ℕ) → r ≡ in_record l.mode x → p + r ≡ record_at b l (i + 1)
  unfolding record_at
  record_next r f = rw (add-one, f, t, e)

  pub offset_next : (q w : ℕ) → q ≡ offset_at b l i → w ≡ in_row l.mode x → q + w ≡ offset_at b l (i + 1)
  unfolding offset_at
  offset_next q w g f = rw (add-one, f, t, e, g)

-- ---- in a body

pub read_end : (b : List ℕ) (k p : ℕ) (l : Layout) (x : Result Cell Cause) → x ≡ cell_at b k p l → end_of_answer x ≤ length b
read_end b k p l x e = rw e (cell_end b k p l)

pub row_held : (l : Layout) (row : ℕ) → on_line l (Row row) ≡ true → row < l.rows
row_held l row e = ltb-true row l.rows e

module _ (b : List ℕ) (by : ℕ) (l : Layout) (k entry : ℕ) (e : entry ≡ record_at b l k) where
  pub its_name : (x : Result Cell Cause) → x ≡ cell_at b 0x0A (entry + 1) l → (r : Result Cell Cause) → r ≡ moved by x → r ≡ line_cell b by l Names k
  unfolding line_cell
  its_name x f r g = rw (← e, ← f) g

  pub its_cell : (row offset : ℕ) → offset ≡ offset_at b l k → (width : ℕ) → width ≡ offset_at b l l.columns
      → (r : Result Cell Cause) → r ≡ column_cell b by (l.start + row * width + offset) l (column_at b entry l) → r ≡ line_cell b by l (Row row) k
  unfolding line_cell
  its_cell row offset o width w r g = rw (← e, ← o, ← w) g

-- ---- in a table of a layout

module _ (bytes : List ℕ) (place : ℕ) (l : Layout) where
  -- the body, as the code takes it from the slice
  its_body : take (place + 32 + l.size - (place + 32)) (drop (place + 32) bytes) ≡ body_of (drop place bytes) l
  its_body = let size : place + 32 + l.size - (place + 32) ≡ l.size = omega arith in rw (size, drop-drop 32 place bytes)

  module _ (line : Line) (k : ℕ) where
    pub no_column_lem : l.columns ≤ k → Ok Nothing ≡ numbered_in bytes place line k (Ok l)
    no_column_lem h = rw (le-ltb k l.columns h)

    module _ (h : k < l.columns) where
      pub no_line : on_line l line ≡ false → Ok Nothing ≡ numbered_in bytes place line k (Ok l)
      no_line e = rw (lt-ltb k l.columns h, e)

      pub on_line_lem : on_line l line ≡ true → (x : Result Cell Cause) → x ≡ line_cell (take (place + 32 + l.size - (place + 32)) (drop (place + 32) bytes)) (place + 32) l line k
          → placed place x ≡ numbered_in bytes place line k (Ok l)
      on_line_lem e x f = rw (lt-ltb k l.columns h, e, ← its_body, ← f)

  module _ (k : ℕ) where
    pub no_tag : l.columns ≤ k → 0 ≡ tag_in bytes place k (Ok l)
    no_tag h = rw (le-ltb k l.columns h)

    pub its_tag : k < l.columns → (entry : ℕ) → entry ≡ record_at (take (place + 32 + l.size - (place + 32)) (drop (place + 32) bytes)) l k
        → (x : ℕ) → x ≡ at (take (place + 32 + l.size - (place + 32)) (drop (place + 32) bytes)) entry → x ≡ tag_in bytes place k (Ok l)
    its_tag h entry e x f = rw (lt-ltb k l.columns h, ← its_body, ← e) f

-- ---- in a slice

module _ (bytes : List ℕ) (place : ℕ) (m : TableMode) where
  no_bytes : length bytes < place → layout_in (drop place bytes) m ≡ Err RanOut
  no_bytes h = sym (short (drop place bytes) m (omega (arith, length-drop place bytes)))

  pub past_the_end : (line : Line) (k : ℕ) → length bytes < place → Err (record { cause = RanOut; place = place }) ≡ cell_by bytes place m line k
  unfolding cell_by
  past_the_end line k h = sym (ap (numbered_in bytes place line k) (no_bytes h))

  pub tag_past_the_end : (k : ℕ) → length bytes < place → 0 ≡ tag_by bytes place m k
  unfolding tag_by
  tag_past_the_end k h = sym (ap (tag_in bytes place k) (no_bytes h))

  module _ (h : place ≤ length bytes) where
    module _ (why : Cause) (e : layout_in (take (length bytes - place) (drop place bytes)) m ≡ Err why) where
      pub unlaid : (line : Line) (k : ℕ) → Err (record { cause = why; place = place }) ≡ cell_by bytes place m line k
      unfolding cell_by
      unlaid line k = sym (ap (numbered_in bytes place line k) (rw (from_place bytes place h) at e))

      pub tag-unlaid : (k : ℕ) → 0 ≡ tag_by bytes place m k
      unfolding tag_by
      tag-unlaid k = sym (ap (tag_in bytes place k) (rw (from_place bytes place h) at e))

    module _ (l : Layout) (e : layout_in (take (length bytes - place) (drop place bytes)) m ≡ Ok l) where
      pub laid : (line : Line) (k : ℕ) → numbered_in bytes place line k (Ok l) ≡ cell_by bytes place m line k
      unfolding cell_by
      laid line k = sym (ap (numbered_in bytes place line k) (rw (from_place bytes place h) at e))

      pub tag-laid : (k : ℕ) → tag_in bytes place k (Ok l) ≡ tag_by bytes place m k
      unfolding tag_by
      tag-laid k = sym (ap (tag_in bytes place k) (rw (from_place bytes place h) at e))

      pub fits : ((l.columns ≤ 64) × (l.rows ≤ 256)) × (place + (32 + l.size) ≤ length bytes)
      fits = let s = sound (drop place bytes) m l (rw (from_place bytes place h) at e) in ((s.0, s.1), omega (arith, s.3, length-drop place bytes))
