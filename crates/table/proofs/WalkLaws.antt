-- One step of each walk, and its end. Assumes nothing.
use Rattle.std.specs.Prelude.{Result, Ok, Err}
use Rattle.cell.specs.declared.Cell.{Cell}
use mathlib.Core.Path.{◌≡◌, refl, ap, ◌∙◌}
use mathlib.Core.List.{List}
use Prim.Native.Nat.{ℕ, zero, suc, ◌+◌, ◌-◌, ◌%◌, ◌<◌, ◌≤◌}
use native.Mathlib.Nat.{not-suc-le-zero}
use native.Mathlib.Omega.{arith}
use Rattle.laws.specs.Lists.{at}
use Rattle.refusal.specs.declared.Cause.{Cause}
use Rattle.layout.specs.declared.Layout.{Layout}
use Rattle.cell.specs.declared.Cell.TheVariants.{Nothing}
use Rattle.column.specs.Storages.{storage_of, in_record, in_row, cell_in}
use Rattle.column.specs.Columns.{column_at}
use Rattle.table.specs.Walks.{after_column, columns_from, after_cell, row_from, after_walk, rows_from, walk_of}
use Rattle.table.proofs.CheckLaws.{cell_passed, cell_stopped, column_passed, column_stopped}

module _ (b : List ℕ) (l : Layout) where
  pub columns_next : (n p m : ℕ) → 0 < n → after_column (λ (k : ℕ). Ok k) (column_at b p l) ≡ Ok m → columns_from b l n p ≡ columns_from b l (n - 1) m
  unfolding columns_from
  columns_next zero p m h e = absurd (not-suc-le-zero h)
  columns_next (suc n) p m h e =
      let one : n ≡ suc n - 1 = omega arith in
      column_passed (column_at b p l) m e (columns_from b l n) ∙ ap (λ (k : ℕ). columns_from b l k m) one

  pub columns_stop : (n p : ℕ) (cause : Cause) → 0 < n → after_column (λ (k : ℕ). Ok k) (column_at b p l) ≡ Err cause → columns_from b l n p ≡ Err cause
  unfolding columns_from
  columns_stop zero p cause h e = absurd (not-suc-le-zero h)
  columns_stop (suc n) p cause h e = column_stopped (column_at b p l) cause e (columns_from b l n)

  pub columns_end : (n p : ℕ) → n ≤ 0 → columns_from b l n p ≡ Ok p
  unfolding columns_from
  columns_end zero p h = refl
  columns_end (suc n) p h = absurd (not-suc-le-zero h)

  -- x is the type byte at p, as it was read
  module _ (n p q x : ℕ) (some : 0 < n) (read : x ≡ at b p) where
    abbrev here : Result Cell Cause
    here = cell_in b (storage_of l.mode x) Nothing (x % 16) q l

    opened : (m : ℕ) → suc m ≡ n → row_from b l n p q ≡ after_cell (row_from b l m (p + in_record l.mode x) (q + in_row l.mode x)) here
    unfolding row_from
    opened m e = rw (← e, read)

    -- w is what the column takes in its record, m where its cell ends
    pub row_next : (w m : ℕ) → w ≡ in_record l.mode x → after_cell (Ok (q + in_row l.mode x)) here ≡ Ok m → row_from b l n p q ≡ row_from b l (n - 1) (p + w) m
    row_next w m f g =
        let e : suc (n - 1) ≡ n = omega arith in
        let h = cell_passed here (q + in_row l.mode x) m g in
        opened (n - 1) e ∙ h.1 (row_from b l (n - 1) (p + in_record l.mode x) (q + in_row l.mode x)) ∙ rw (h.0, f)

    pub row_stop : (cause : Cause) → after_cell (Ok (q + in_row l.mode x)) here ≡ Err cause → row_from b l n p q ≡ Err cause
    row_stop cause g =
        let e : suc (n - 1) ≡ n = omega arith in
        opened (n - 1) e ∙ cell_stopped here (q + in_row l.mode x) cause g (row_from b l (n - 1) (p + in_record l.mode x) (q + in_row l.mode x))

  pub row_end_lem : (n p q : ℕ) → n ≤ 0 → row_from b l n p q ≡ Ok q
  unfolding row_from
  row_end_lem zero p q h = refl
  row_end_lem (suc n) p q h = absurd (not-suc-le-zero h)

  pub rows_next : (r q q' : ℕ) → 0 < r → row_from b l l.columns 0 q ≡ Ok q' → rows_from b l r q ≡ rows_from b l (r - 1) q'
  unfolding rows_from
  rows_next zero q q' h e = absurd (not-suc-le-zero h)
  rows_next (suc r) q q' h e =
      let one : r ≡ suc r - 1 = omega arith in
      ap (after_walk (rows_from b l r)) e ∙ ap (λ (m : ℕ). rows_from b l m q') one

  pub rows_stop : (r q : ℕ) (cause : Cause) → 0 < r → row_from b l l.columns 0 q ≡ Err cause → rows_from b l r q ≡ Err cause
  unfolding rows_from
  rows_stop zero q cause h e = absurd (not-suc-le-zero h)
  rows_stop (suc r) q cause h e = ap (after_walk (rows_from b l r)) e

  pub rows_end : (r q : ℕ) → r ≤ 0 → rows_from b l r q ≡ Ok q
  unfolding rows_from
  rows_end zero q h = refl
  rows_end (suc r) q h = absurd (not-suc-le-zero h)

  pub table_rows : (q : ℕ) → columns_from b l l.columns 0 ≡ Ok q → walk_of b l ≡ rows_from b l l.rows l.start
  unfolding walk_of
  table_rows q e = ap (after_walk (λ (p : ℕ). rows_from b l l.rows l.start)) e

  pub table_stop : (cause : Cause) → columns_from b l l.columns 0 ≡ Err cause → walk_of b l ≡ Err cause
  unfolding walk_of
  table_stop cause e = ap (after_walk (λ (p : ℕ). rows_from b l l.rows l.start)) e
