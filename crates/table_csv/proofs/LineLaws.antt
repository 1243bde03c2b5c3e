-- Lines and rows, one more column or row at a time: what is left of a line is its next field, what stands after that, and the rest. And how long
-- they are: a body has less than 2 ^ 32 bytes, so a field has less than 2 ^ 34, and a table of 64 columns and 256 rows less than 2 ^ 49. Assumes nothing.
use Rattle.std.specs.Prelude.{Result}
use Rattle.cell.specs.declared.Cell.{Cell}
use Rattle.refusal.specs.declared.Cause.{Cause}
use mathlib.Core.Path.{◌≡◌, refl, ap, ◌∙◌}
use mathlib.Core.List.{List, [], ◌∷◌, ◌++◌}
use mathlib.Core.Bool.{Bool, true, false, cond}
use Prim.Native.Nat.{ℕ, zero, suc, ◌+◌, ◌-◌, ◌*◌, ◌^◌, ◌≤◌, ◌<◌}
use native.Mathlib.Omega.{arith}
use lib.ListN.{length, length-append}
use lib.Dec.{eqb}
use borrow.Author.Tests.{eqb-true}
use Rattle.laws.specs.Lists.{at}
use Rattle.laws.specs.Outputs.{Put}
use Rattle.laws.proofs.PutLaws.{Left}
use Rattle.layout.specs.declared.Layout.{Layout}
use Rattle.column.specs.Storages.{in_record, in_row}
use Rattle.csv_text.specs.Written.{field_of, mark_after, record_of, csv_of}
use Rattle.table_csv.specs.declared.Line.{Line}
use Rattle.table_csv.specs.declared.Line.TheVariants.{Names, Cells}
use Rattle.table_csv.specs.Texts.{text_in, cell_on, line_from, row_end, row_texts, name_texts, texts_of}
use Rattle.table_csv.proofs.CellPutLaws.{field_short}

module _ (b : List ℕ) (l : Layout) where
  -- ---- a line

  module _ (line : Line) where
    line_length_lem : (n p q : ℕ) → length (line_from b l line n p q) ≡ n
    unfolding line_from
    line_length_lem zero p q = refl
    line_length_lem (suc n) p q = ap suc (line_length_lem n (p + in_record l.mode (at b p)) (q + in_row l.mode (at b p)))

    pub line_over : (n p q : ℕ) → n ≤ 0 → record_of (line_from b l line n p q) ≡ []
    unfolding line_from record_of
    line_over zero p q h = refl
    line_over (suc n) p q h = absurd (omega arith)

    one_more : (n p q : ℕ) → record_of (line_from b l line (suc n) p q)
        ≡ field_of (text_in b (cell_on b l line p q)) ++ (mark_after n ++ record_of (line_from b l line n (p + in_record l.mode (at b p)) (q + in_row l.mode (at b p))))
    unfolding line_from record_of
    one_more n p q = rw (line_length_lem n (p + in_record l.mode (at b p)) (q + in_row l.mode (at b p)))

    module _ (p q : ℕ) (answer : Result Cell Cause) (tag r s : ℕ) (cell : answer ≡ cell_on b l line p q) (read : tag ≡ at b p) (in-record : r ≡ in_record l.mode tag)
        (in_row_lem : s ≡ in_row l.mode tag) where
      pub line-next : (n : ℕ) → 0 < n → record_of (line_from b l line n p q) ≡ field_of (text_in b answer) ++ (mark_after (n - 1) ++ record_of (line_from b l line (n - 1) (p + r) (q + s)))
      line-next zero h = absurd (omega arith)
      line-next (suc n) h =
          let e : suc n - 1 ≡ n = omega arith in
          rw (e, cell, in-record, in_row_lem, read) (one_more n p q)

      -- the next field, and what stands after it, end below any bound of the whole
      module _ (n : ℕ) (some : 0 < n) {out whole start : List ℕ} {end place : ℕ} (left : Left (record_of (line_from b l line n p q)) out end whole start place)
          (bound : ℕ) (below : place + length whole < bound) where
        abbrev field : List ℕ
        field = field_of (text_in b answer)

        abbrev rest : List ℕ
        rest = record_of (line_from b l line (n - 1) (p + r) (q + s))

        lengths : (length (record_of (line_from b l line n p q)) ≡ length field + length (mark_after (n - 1) ++ rest)) × (length (mark_after (n - 1) ++ rest) ≡ length (mark_after (n - 1)) + length rest)
        lengths = (ap length (line-next n some) ∙ length-append field (mark_after (n - 1) ++ rest), length-append (mark_after (n - 1)) rest)

        pub field_below : end + length (field_of (text_in b answer)) < bound
        field_below = omega (arith, left.ends, lengths.0)

        pub mark-below : {next : List ℕ} {middle : ℕ} → Put (field_of (text_in b answer)) out end next middle → middle + length (mark_after (n - 1)) < bound
        mark-below put = omega (arith, left.ends, put.ends, lengths.0, lengths.1)

    pub line_short : length b < 2 ^ 32 → (n p q : ℕ) → length (record_of (line_from b l line n p q)) ≤ 2 ^ 34 * n
    line_short h zero p q = omega (arith, ap length (line_over 0 p q (omega arith)))
    line_short h (suc n) p q =
        let field = field_of (text_in b (cell_on b l line p q)) in
        let rest = record_of (line_from b l line n (p + in_record l.mode (at b p)) (q + in_row l.mode (at b p))) in
        let more = line_short h n (p + in_record l.mode (at b p)) (q + in_row l.mode (at b p)) in
        omega (arith, ap length (one_more n p q), length-append field (mark_after n ++ rest), length-append (mark_after n) rest, field_short b (cell_on b l line p q), mark-short n)
      where
        mark-short : (n : ℕ) → length (mark_after n) ≤ 2
        mark-short zero = omega arith
        mark-short (suc n) = omega arith

  pub end_over : (n p q : ℕ) → n ≤ 0 → q ≡ row_end b l n p q
  unfolding row_end
  end_over zero p q h = refl
  end_over (suc n) p q h = absurd (omega arith)

  pub end_next : (n p q tag r s : ℕ) → 0 < n → tag ≡ at b p → r ≡ in_record l.mode tag → s ≡ in_row l.mode tag → row_end b l (n - 1) (p + r) (q + s) ≡ row_end b l n p q
  unfolding row_end
  end_next zero p q tag r s h read in-record in_row_lem = absurd (omega arith)
  end_next (suc n) p q tag r s h read in-record in_row_lem =
      let e : suc n - 1 ≡ n = omega arith in
      rw (e, in-record, in_row_lem, read)

  -- ---- the rows

  pub rows_over : (n q : ℕ) → n ≤ 0 → csv_of (row_texts b l n q) ≡ []
  unfolding row_texts csv_of
  rows_over zero q h = refl
  rows_over (suc n) q h = absurd (omega arith)

  one_row : (n q : ℕ) → csv_of (row_texts b l (suc n) q) ≡ record_of (line_from b l Cells l.columns 0 q) ++ csv_of (row_texts b l n (row_end b l l.columns 0 q))
  unfolding row_texts csv_of
  one_row n q = refl

  pub rows_next : (n q next : ℕ) → 0 < n → next ≡ row_end b l l.columns 0 q
      → csv_of (row_texts b l n q) ≡ record_of (line_from b l Cells l.columns 0 q) ++ csv_of (row_texts b l (n - 1) next)
  rows_next zero q next h e = absurd (omega arith)
  rows_next (suc n) q next h e =
      let f : suc n - 1 ≡ n = omega arith in
      rw (e, f) (one_row n q)

  -- the next row ends below any bound of the whole
  pub row_below : (n q : ℕ) → 0 < n → {out whole start : List ℕ} {end place : ℕ} (bound : ℕ) → Left (csv_of (row_texts b l n q)) out end whole start place → place + length whole < bound
      → end + length (record_of (line_from b l Cells l.columns 0 q)) < bound
  row_below n q some bound left below =
      omega
      (arith, left.ends, ap length (rows_next n q _ some refl), length-append (record_of (line_from b l Cells l.columns 0 q)) (csv_of (row_texts b l (n - 1) (row_end b l l.columns 0 q))))

  rows_short : length b < 2 ^ 32 → l.columns ≤ 64 → (n q : ℕ) → length (csv_of (row_texts b l n q)) ≤ 2 ^ 40 * n
  rows_short h few zero q = omega (arith, ap length (rows_over 0 q (omega arith)))
  rows_short h few (suc n) q =
      let row = record_of (line_from b l Cells l.columns 0 q) in
      let rest = csv_of (row_texts b l n (row_end b l l.columns 0 q)) in
      let more = rows_short h few n (row_end b l l.columns 0 q) in
      omega (arith, ap length (one_row n q), length-append row rest, line_short Cells h l.columns 0 q)

  -- ---- the table

  -- records without a field are nothing
  rows_none : l.columns ≡ 0 → (n q : ℕ) → csv_of (row_texts b l n q) ≡ []
  rows_none none zero q = rows_over 0 q (omega arith)
  rows_none none (suc n) q =
      rw (one_row n q, line_over Cells l.columns 0 q (omega arith)) (rows_none none n (row_end b l l.columns 0 q))

  pub table_lines : record_of (name_texts b l) ++ csv_of (row_texts b l l.rows l.start) ≡ csv_of (texts_of b l)
  unfolding texts_of csv_of
  table_lines = go (eqb l.columns 0) refl
    where
      go : (t : Bool) → eqb l.columns 0 ≡ t
          → record_of (name_texts b l) ++ csv_of (row_texts b l l.rows l.start) ≡ csv_of (cond t [] (name_texts b l ∷ row_texts b l l.rows l.start))
      go true e =
          let none = eqb-true l.columns 0 e in
          rw (line_over Names l.columns 0 0 (omega arith), rows_none none l.rows l.start)
      go false e = refl

  -- no sum wraps
  pub names_fit : length b < 2 ^ 32 → l.columns ≤ 64 → length (record_of (name_texts b l)) ≤ 2 ^ 40
  names_fit h few = omega (arith, line_short Names h l.columns 0 0)

  pub rows_fit : length b < 2 ^ 32 → l.columns ≤ 64 → l.rows ≤ 256 → length (csv_of (row_texts b l l.rows l.start)) ≤ 2 ^ 48
  rows_fit h few many = omega (arith, rows_short h few l.rows l.start)
