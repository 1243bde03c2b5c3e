-- The quick checks of a text, a cell and a column have the answers of the readings, without their values. Assumes nothing.
use Rattle.std.specs.Prelude.{Option, Some, None, Result, Ok, Err}
use Rattle.column.specs.declared.Column.{Column}
use Rattle.cell.specs.declared.Cell.{Cell}
use mathlib.Core.Path.{◌≡◌, refl, ap, ◌∙◌}
use mathlib.Core.List.{List}
use mathlib.Core.Bool.{Bool, true, false, cond}
use Prim.Native.Nat.{ℕ, ◌+◌, ◌-◌, ◌%◌, ◌<◌, ◌≤◌}
use native.Mathlib.Nat.{add-zero}
use native.Mathlib.Omega.{arith}
use lib.ListN.{length, get_or-eq_default}
use lib.Dec.{T, eqb, ltb}
use borrow.Author.Tests.{eq-eqb, ne_eqb, le-leb, lt-leb, ltb-true, ltb-false}
use Rattle.laws.specs.Lists.{at}
use Rattle.word.specs.Numbers.{be32}
use Rattle.refusal.specs.declared.Cause.{Cause}
use Rattle.refusal.specs.declared.Cause.TheVariants.{RanOut, UnknownType, UnknownStorage}
use Rattle.layout.specs.declared.Layout.{Layout}
use Rattle.cell.specs.declared.Cell.TheVariants.{Nothing}
use Rattle.cell.specs.Types.{Kind, unknown, kinds, kind_of, width_of}
use Rattle.cell.specs.Parts.{end_of, text_to, text_at}
use Rattle.cell.specs.Cells.{value_at, cell_at, zero_cell}
use Rattle.cell.proofs.Entries.{every, entry}
use Rattle.column.specs.declared.Storage.{Storage}
use Rattle.column.specs.declared.Storage.TheVariants.{Constant, Stored, Zero, Unknown}
use Rattle.column.specs.Storages.{storage_of, in_record, in_row, constant_at, cell_in}
use Rattle.column.specs.Columns.{column_of, column_by, column_from, column_at}
use Rattle.column.proofs.ColumnLaws.{cut, unnamed, with_name}
use Rattle.table.specs.LastZero.{is_at}
use Rattle.table.specs.Walks.{after_cell, after_column}

-- ---- a text

module _ (b : List ℕ) (place : ℕ) (w : Result ℕ Cause) where
  from_end : (x : Option ℕ) (t : Bool) → is_at x ≡ t → after_cell w (text_to (place - 24) x) ≡ cond t w (Err RanOut)
  from_end (Some z) true e = refl
  from_end (Some z) false e = let f : true ≡ false = e in cc
  from_end None true e = let f : false ≡ true = e in cc
  from_end None false e = refl

  pub text_fine : is_at (end_of b place) ≡ true → after_cell w (text_at b place) ≡ w
  text_fine e = from_end (end_of b place) true e

  pub text_bad : is_at (end_of b place) ≡ false → after_cell w (text_at b place) ≡ Err RanOut
  text_bad e = from_end (end_of b place) false e

-- ---- a value that is neither text nor data

abbrev passes : Result Cell Cause → Bool
passes (Ok c) = true
passes (Err cause) = false

passed : (x : Result Cell Cause) (w : Result ℕ Cause) → T (passes x) → after_cell w x ≡ w
passed (Ok c) w t = refl
passed (Err cause) w t = absurd t

-- a type is 10 or 11, or a value of its kind passes: one test over the table of kinds, which antt computes
module _ (b : List ℕ) (p : ℕ) (l : Layout) where
  pointed : ℕ → Kind → Bool
  pointed k x = cond (eqb k 10) true (cond (eqb k 11) true (passes (value_at x b p l)))

  all_pointed : T (every pointed 0 kinds)
  unfolding pointed value_at
  all_pointed = tt

  pub plain : (k : ℕ) (w : Result ℕ Cause) → (k ≡ 10 → ⊥) → (k ≡ 11 → ⊥) → after_cell w (value_at (kind_of k) b p l) ≡ w
  unfolding pointed value_at
  plain k w f g = passed (value_at (kind_of k) b p l) w (go (ltb k 16) refl)
    where
      go : (t : Bool) → ltb k 16 ≡ t → T (passes (value_at (kind_of k) b p l))
      go true e = rw (ne_eqb k 10 f, ne_eqb k 11 g) at (entry pointed unknown kinds all_pointed k (ltb-true k 16 e))
      go false e = rw (get_or-eq_default kinds unknown (ltb-false k 16 e)) tt

-- ---- a cell

module _ (b : List ℕ) (k p : ℕ) (l : Layout) (w : Result ℕ Cause) where
  pub cell_unknown : width_of k ≡ 0 → Err (UnknownType k) ≡ after_cell w (cell_at b k p l)
  unfolding cell_at
  cell_unknown e = rw (eq-eqb (width_of k) 0 e)

  pub cell_cut : (width_of k ≡ 0 → ⊥) → length b < p + width_of k → Err RanOut ≡ after_cell w (cell_at b k p l)
  unfolding cell_at
  cell_cut f h = rw (ne_eqb (width_of k) 0 f, lt-leb (p + width_of k) (length b) h)

  pub cell_there : (width_of k ≡ 0 → ⊥) → p + width_of k ≤ length b → after_cell w (value_at (kind_of k) b p l) ≡ after_cell w (cell_at b k p l)
  unfolding cell_at
  cell_there f h = rw (ne_eqb (width_of k) 0 f, le-leb (p + width_of k) (length b) h)

-- ---- what follows a column's name, and its cell in a row, by its storage: k is the type in the type byte x

module _ (b : List ℕ) (x p : ℕ) (l : Layout) where
  -- the check of what follows the name, and that of the cell in a row
  abbrev Follows : Result ℕ Cause → Type 0
  Follows w = w ≡ after_cell (Ok (p + in_record l.mode x)) (constant_at b (storage_of l.mode x) (x % 16) (p + 5) l)

  abbrev InRow : Result ℕ Cause → Type 0
  InRow w = w ≡ after_cell (Ok (p + in_row l.mode x)) (cell_in b (storage_of l.mode x) Nothing (x % 16) p l)

  module _ (k : ℕ) (low : k ≡ x % 16) where
    pub constant_follows : storage_of l.mode x ≡ Constant → Follows (after_cell (Ok (p + 5 + width_of k)) (cell_at b k (p + 5) l))
    constant_follows e =
        let sum : p + 5 + width_of (x % 16) ≡ p + (5 + width_of (x % 16)) = omega arith in
        rw (low, e, sum)

    pub stored_in_row : storage_of l.mode x ≡ Stored → InRow (after_cell (Ok (p + width_of k)) (cell_at b k p l))
    stored_in_row e = rw (low, e)

    pub zero_in_row : storage_of l.mode x ≡ Zero → InRow (after_cell (Ok p) (zero_cell k))
    zero_in_row e = rw (low, e, add-zero p)

  pub unknown_follows : storage_of l.mode x ≡ Unknown → Follows (Err UnknownStorage)
  unknown_follows e = rw e

  pub constant_in_row : storage_of l.mode x ≡ Constant → InRow (Ok p)
  constant_in_row e = rw (e, add-zero p)

  pub unknown_in_row : storage_of l.mode x ≡ Unknown → InRow (Err UnknownStorage)
  unknown_in_row e = rw e

-- ---- what a check's answer says of the cell and of the column

-- a cell that passes hands on to what comes after it
pub cell_passed : (x : Result Cell Cause) (q m : ℕ) → after_cell (Ok q) x ≡ Ok m → (q ≡ m) × ((w : Result ℕ Cause) → after_cell w x ≡ w)
cell_passed (Ok c) q m e = let f : q ≡ m = cc in (f, λ w. refl)
cell_passed (Err why) q m e = let z : ◌≡◌ {A = ℕ} 0 1 = cc in absurd (omega arith)

pub cell_stopped : (x : Result Cell Cause) (q : ℕ) (cause : Cause) → after_cell (Ok q) x ≡ Err cause → (w : Result ℕ Cause) → after_cell w x ≡ Err cause
cell_stopped (Ok c) q cause e w = let z : ◌≡◌ {A = ℕ} 0 1 = cc in absurd (omega arith)
cell_stopped (Err why) q cause e w = e

pub column_passed : (x : Result Column Cause) (m : ℕ) → after_column (λ (n : ℕ). Ok n) x ≡ Ok m → (k : ℕ → Result ℕ Cause) → after_column k x ≡ k m
column_passed (Ok c) m e k = let f : c.next ≡ m = cc in ap k f
column_passed (Err why) m e k = let z : ◌≡◌ {A = ℕ} 0 1 = cc in absurd (omega arith)

pub column_stopped : (x : Result Column Cause) (cause : Cause) → after_column (λ (n : ℕ). Ok n) x ≡ Err cause → (k : ℕ → Result ℕ Cause) → after_column k x ≡ Err cause
column_stopped (Ok c) cause e k = let z : ◌≡◌ {A = ℕ} 0 1 = cc in absurd (omega arith)
column_stopped (Err why) cause e k = e

-- ---- a column

abbrev done : ℕ → Result ℕ Cause
done m = Ok m

held_to : (name : ℕ) (s : Storage) (k next : ℕ) (x : Result Cell Cause) → after_cell (Ok next) x ≡ after_column done (column_of name s k next x)
held_to name s k next (Ok c) = refl
held_to name s k next (Err why) = refl

module _ (b : List ℕ) (p : ℕ) (l : Layout) where
  pub column_cut : length b < p + 5 → Err RanOut ≡ after_column done (column_at b p l)
  column_cut h = ap (after_column done) (cut b p l h)

  -- x is the type byte and n the name offset, as they were read
  module _ (x n : ℕ) (room : p + 5 ≤ length b) (tag : x ≡ at b p) (read : n ≡ be32 b (p + 1)) where
    no_name : (e : Option ℕ) → end_of b (l.strings + n) ≡ e → is_at e ≡ false → Err RanOut ≡ after_column done (column_at b p l)
    no_name (Some z) f t = let g : true ≡ false = t in cc
    no_name None f t = ap (after_column done) (unnamed b p l n room read f)

    named_so : (e : Option ℕ) → end_of b (l.strings + n) ≡ e → is_at e ≡ true → column_from b p (l.strings + n) l ≡ column_at b p l
    named_so (Some z) f t = with_name b p l n room read z f
    named_so None f t = let g : false ≡ true = t in cc

    pub column_unnamed : is_at (end_of b (l.strings + n)) ≡ false → Err RanOut ≡ after_column done (column_at b p l)
    column_unnamed t = no_name (end_of b (l.strings + n)) refl t

    pub column_named : is_at (end_of b (l.strings + n)) ≡ true
        → after_cell (Ok (p + in_record l.mode x)) (constant_at b (storage_of l.mode x) (x % 16) (p + 5) l) ≡ after_column done (column_at b p l)
    unfolding column_from
    column_named t =
        let s = storage_of l.mode x in
        held_to (l.strings + n) s (x % 16) (p + in_record l.mode x) (constant_at b s (x % 16) (p + 5) l)
        ∙ ap (λ (y : ℕ). after_column done (column_by b p y (l.strings + n) l)) tag
        ∙ ap (after_column done) (named_so (end_of b (l.strings + n)) refl t)
