-- A table that was written, as the readers find it: its layout, its one column, its one row, and the cell that it was made with. Assumes nothing.
use Rattle.std.specs.Prelude.{Some, Ok}
use Prim.Native.Nat.{ℕ, suc, ◌+◌, ◌-◌, ◌*◌, ◌%◌, ◌^◌, ◌≤◌, ◌<◌}
use mathlib.Core.Path.{◌≡◌, refl, sym, ap, ◌∙◌}
use mathlib.Core.List.{List, [], ◌∷◌, ◌++◌}
use mathlib.Core.Bool.{Bool, true, false, not, cond, ◌&&◌}
use native.Mathlib.Omega.{arith}
use lib.ListN.{length, take, drop, length-append}
use lib.Seq.{take_at, drop_at, drop-drop, get_or-drop}
use lib.Dec.{eqb}
use mathlib.Core.Logic.{⊎_elim}
use borrow.Author.Tests.{le-ltb, le-leb, eq-eqb, ne_eqb}
use Rattle.laws.proofs.Side.{side}
use Rattle.laws.specs.Lists.{at}
use Rattle.word.specs.Numbers.{be16, be32}
use Rattle.reading.specs.declared.TableMode.{TableMode}
use Rattle.reading.specs.declared.TableMode.TheVariants.{Original, ZeroColumns}
use Rattle.layout.specs.declared.Layout.{Layout}
use Rattle.layout.specs.Layouts.{counted_in, layout_in, body_of}
use Rattle.cell.specs.declared.Cell.{Cell}
use Rattle.cell.specs.declared.Cell.TheVariants.{Nothing, Unsigned, Data}
use Rattle.cell.specs.Parts.{zero_in}
use Rattle.cell.specs.Cells.{value_at, cell_at}
use Rattle.column.specs.declared.Storage.TheVariants.{Stored}
use Rattle.column.specs.declared.Column.{Column}
use Rattle.column.specs.Storages.{storage_of, in_row}
use Rattle.column.specs.Columns.{column_from, named, column_at}
use Rattle.table.specs.Walks.{columns_from, row_from, rows_from, walk_of}
use Rattle.table.specs.Tables.{table_of, table_at}
use Rattle.lookup.specs.Names.{spells}
use Rattle.lookup.specs.Search.{search_from}
use Rattle.lookup.specs.Lookups.{shifted, body_cell, cell_from, cell_of, last_cell_of}
use Rattle.signature.specs.Signatures.{filename}
use Rattle.word.specs.Bytes.{bytes32}
use Rattle.write_blocks.specs.Tables.{empty_table, table_head, table_with}
use Rattle.word.proofs.NumberLaws.{whole32}
use Rattle.write_plan.proofs.LengthLaws.{table_length}

-- ---- a column's name

-- no byte of it is zero
abbrev pub no_zero : List ℕ → Bool
no_zero [] = true
no_zero (byte ∷ bytes) = not (eqb byte 0) && no_zero bytes

pub parted : (t u : Bool) → (not t && u) ≡ true → (t ≡ false) × (u ≡ true)
parted true u e = let z : ◌≡◌ {A = ℕ} 0 1 = cc in absurd (omega arith)
parted false u e = (refl, e)

-- it ends at the zero behind it
ends_at : (name blob : List ℕ) (p : ℕ) → no_zero name ≡ true → zero_in (name ++ (0 ∷ blob)) p ≡ Some (p + length name)
unfolding zero_in
ends_at [] blob p e = ap Some (omega arith)
ends_at (byte ∷ name) blob p e =
    let n = parted (eqb byte 0) (no_zero name) e in
    rw n.0 (ends_at name blob (suc p) n.1 ∙ ap Some (omega arith))

spelled : (b name blob : List ℕ) (p : ℕ) → drop p b ≡ name ++ (0 ∷ blob) → no_zero name ≡ true → spells b p name ≡ true
unfolding spells
spelled b [] blob p d e = let a : at b p ≡ 0 = ap (at b) (omega arith) ∙ sym (get_or-drop p b 0 0) ∙ ap (λ (l : List ℕ). at l 0) d in rw a
spelled b (byte ∷ name) blob p d e =
    let n = parted (eqb byte 0) (no_zero name) e in
    let a : at b p ≡ byte = ap (at b) (omega arith) ∙ sym (get_or-drop p b 0 0) ∙ ap (λ (l : List ℕ). at l 0) d in
    let r : drop (p + 1) b ≡ name ++ (0 ∷ blob) = sym (drop-drop 1 p b) ∙ ap (drop 1) d in
    rw (a, n.0, eq-eqb byte byte refl) (spelled b name blob (p + 1) r n.1)

-- ---- a table with one column and one row, whose cell is `value`

module _ (mode : TableMode) (tag : ℕ) (column cell blob : List ℕ) where
  abbrev pub body : List ℕ
  body = tag ∷ 0 ∷ 0 ∷ 0 ∷ 0 ∷ (cell ++ (column ++ (0 ∷ blob)))

  abbrev pub laid : Layout
  laid =
      record { size = 6 + length cell + length column + length blob; columns = 1; rows = 1; start = 5; strings = 29 + length cell; blobs = 30 + length cell + length column; mode = mode }

  body_long : length body ≡ 6 + length cell + length column + length blob
  body_long = simp length-append (omega arith)

  module _ (more : List ℕ) (c : length cell < 2 ^ 16) (m : length column < 2 ^ 16) (d : length blob < 2 ^ 31) where
    abbrev table : List ℕ
    table = table_with tag column cell blob ++ more

    long : length table ≡ 38 + length cell + length column + length blob + length more
    long = length-append (table_with tag column cell blob) more ∙ ap (λ (n : ℕ). n + length more) (table_length tag column cell blob)

    body_read : drop 32 table ≡ body ++ more
    unfolding table_with table_head
    body_read = refl

    size_read : be32 table 4 ≡ 30 + length cell + length column + length blob
    unfolding table_with table_head
    size_read = whole32 (29 + length cell + length column + 1 + length blob) (omega arith) ∙ omega arith

    strings_read : be32 table 12 ≡ 29 + length cell
    unfolding table_with table_head
    strings_read = whole32 (29 + length cell) (omega arith)

    blobs_read : be32 table 16 ≡ 30 + length cell + length column
    unfolding table_with table_head
    blobs_read = whole32 (29 + length cell + length column + 1) (omega arith) ∙ omega arith

    fixed_read : (be32 table 0 ≡ 0x40555446) × (be16 table 10 ≡ 29) × (be16 table 24 ≡ 1) × (be32 table 28 ≡ 1)
    unfolding table_with table_head
    fixed_read = (refl, refl, refl, refl)

    layout_read : layout_in table mode ≡ Ok laid
    unfolding layout_in counted_in
    layout_read =
        let n : be32 table 4 - 24 ≡ 6 + length cell + length column + length blob = omega (arith, size_read) in
        rw (
          le-ltb (length table) 4 (omega (arith, long)),
          fixed_read.0,
          le-ltb (length table) 32 (omega (arith, long)),
          le-ltb (be32 table 4) 24 (omega (arith, size_read)),
          le-ltb (length table) (32 + (be32 table 4 - 24)) (omega (arith, long, size_read)),
          n,
          fixed_read.1,
          fixed_read.2,
          fixed_read.3,
          strings_read,
          blobs_read,
        )

    body_is : body_of table laid ≡ body
    body_is = ap (take (6 + length cell + length column + length blob)) body_read ∙ take_at body more (6 + length cell + length column + length blob) body_long

  -- ---- its column

  module _ (stored : storage_of mode tag ≡ Stored) (clean : no_zero column ≡ true) where
    name_read : drop (5 + length cell) body ≡ column ++ (0 ∷ blob)
    name_read = sym (drop-drop (length cell) 5 body) ∙ drop_at cell (column ++ (0 ∷ blob)) (length cell) refl

    abbrev entry : Column
    entry = record { name = 29 + length cell + 0; storage = Stored; kind = tag % 16; constant = Nothing; next = 5 }

    column_read : column_at body 0 laid ≡ Ok entry
    unfolding column_at named column_from
    column_read =
        let n : 29 + length cell + 0 - 24 ≡ 5 + length cell = omega arith in
        rw (le-leb 5 (length body) (omega (arith, body_long)), le-ltb (29 + length cell + 0) 24 (omega arith), n, name_read, ends_at column blob (5 + length cell) clean, stored)

    -- ---- its row and its cell

    module _ (value : Cell) (got : cell_at body (tag % 16) 5 laid ≡ Ok value) where
      table-read : (place : ℕ) (t : List ℕ) → layout_in t mode ≡ Ok laid → body_of t laid ≡ body → table_of place t mode ≡ Ok laid
      unfolding table_of walk_of columns_from rows_from row_from
      table-read place t e f = rw (e, f, column_read, stored, got)

      cell-read : (by : ℕ) → body_cell body by laid column 0 ≡ Ok (shifted by value)
      unfolding body_cell search_from
      cell-read by =
          let n : 29 + length cell + 0 - 24 ≡ 5 + length cell = omega arith in
          let o : 5 + 0 * (0 + in_row mode tag) + 0 ≡ 5 = omega arith in
          rw (n, spelled body column blob (5 + length cell) name_read clean) (rw (o, column_read, got))

      module _ (more : List ℕ) (c : length cell < 2 ^ 16) (m : length column < 2 ^ 16) (d : length blob < 2 ^ 31) (s : List ℕ) (place : ℕ)
          (here : drop place s ≡ table_with tag column cell blob ++ more) where
        pub table_is : table_at s place mode ≡ Ok laid
        table_is = ap (λ (t : List ℕ). table_of place t mode) here ∙ table-read place (table_with tag column cell blob ++ more) (layout_read more c m d) (body_is more c m d)

        pub first-cell-is : cell_of s place mode column 0 ≡ Ok (shifted (place + 32) value)
        unfolding cell_from
        first-cell-is = rw (table_is, here, body_is more c m d, cell-read (place + 32))

        pub last-cell-is : last_cell_of s place mode column ≡ Ok (shifted (place + 32) value)
        last-cell-is = rw table_is (rw table_is at first-cell-is)

-- ---- a table without a column

module _ (mode : TableMode) (s more : List ℕ) (place : ℕ) (here : drop place s ≡ empty_table ++ more) where
  abbrev bare : Layout
  bare = record { size = 0; columns = 0; rows = 0; start = 0; strings = 0; blobs = 0; mode = mode }

  bare_read : layout_in (empty_table ++ more) mode ≡ Ok bare
  unfolding layout_in counted_in
  bare_read =
      let n : length (empty_table ++ more) ≡ 32 + length more = length-append empty_table more in
      rw (le-ltb (length (empty_table ++ more)) 4 (omega (arith, n)), le-ltb (length (empty_table ++ more)) 32 (omega (arith, n)))

  pub empty_is : table_at s place mode ≡ Ok bare
  unfolding table_of walk_of columns_from rows_from
  empty_is = rw (here, bare_read)

  pub no_cell : (column : List ℕ) → cell_of s place mode column 0 ≡ Ok Nothing
  unfolding cell_from
  no_cell column = rw empty_is

-- ---- the cells that are written: stored in the row, in every mode

pub name_stored : (mode : TableMode) → storage_of mode 0x5B ≡ Stored
name_stored Original = refl
name_stored ZeroColumns = refl

pub codec_stored : (mode : TableMode) → storage_of mode 0x54 ≡ Stored
codec_stored Original = refl
codec_stored ZeroColumns = refl

-- a name: the data behind the column's name
pub name_value : (mode : TableMode) (name : List ℕ) → length name < 2 ^ 31
    → cell_at (body mode 0x5B filename (bytes32 0 ++ bytes32 (length name)) name) 0x0B 5 (laid mode 0x5B filename (bytes32 0 ++ bytes32 (length name)) name)
    ≡ Ok (Data (cond (eqb (length name) 0) 0 22) (length name))
unfolding cell_at value_at
name_value mode name h =
    let b = body mode 0x5B filename (bytes32 0 ++ bytes32 (length name)) name in
    let l : length b ≡ 22 + length name = omega arith in
    rw (le-leb 13 (length b) (omega (arith, l)), whole32 (length name) (omega arith))
    (⊎_elim (λ (k : length name < 1). let z : length name ≡ 0 = omega arith in rw z)
    (λ (k : 1 ≤ length name). rw (ne_eqb (length name) 0 (λ e. omega arith), le-leb (22 + length name) (length b) (omega (arith, l)))) (side (length name) 1))

-- a codec: its number
pub codec_value : (mode : TableMode) (column : List ℕ) (n : ℕ) → n < 2 ^ 32 → cell_at (body mode 0x54 column (bytes32 n) []) 4 5 (laid mode 0x54 column (bytes32 n) []) ≡ Ok (Unsigned n)
unfolding cell_at value_at
codec_value mode column n h =
    let b = body mode 0x54 column (bytes32 n) [] in
    rw (le-leb 9 (length b) (omega arith), whole32 n h)
