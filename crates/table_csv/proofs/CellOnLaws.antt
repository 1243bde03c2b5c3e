-- The cell of a column in a row, by its storage: a law for each return of the code. Assumes nothing.
use Rattle.std.specs.Prelude.{Result, Ok, Err}
use Rattle.cell.specs.declared.Cell.{Cell}
use Rattle.refusal.specs.declared.Cause.{Cause}
use mathlib.Core.Path.{◌≡◌, refl}
use mathlib.Core.List.{List}
use Prim.Native.Nat.{ℕ, ◌+◌, ◌%◌}
use Rattle.laws.specs.Lists.{at}
use Rattle.refusal.specs.declared.Cause.TheVariants.{UnknownStorage}
use Rattle.layout.specs.declared.Layout.{Layout}
use Rattle.cell.specs.Cells.{cell_at, zero_cell}
use Rattle.column.specs.declared.Storage.TheVariants.{Constant, Stored, Zero, Unknown}
use Rattle.column.specs.Storages.{storage_of}
use Rattle.table_csv.specs.Texts.{with_constant, row_cell}

itself : (x : Result Cell Cause) → x ≡ with_constant (λ c. Ok c) x
itself (Ok c) = refl
itself (Err why) = refl

module _ (b : List ℕ) (l : Layout) (p q : ℕ) (tag kind : ℕ) (read : tag ≡ at b p) (type : kind ≡ tag % 16) where
  named : kind ≡ at b p % 16
  named = rw (← read) type

  pub constant_cell : storage_of l.mode tag ≡ Constant → cell_at b kind (p + 5) l ≡ row_cell b l p q
  unfolding row_cell
  constant_cell s = rw (← read, ← type, s) (itself (cell_at b kind (p + 5) l))

  pub stored_cell : storage_of l.mode tag ≡ Stored → cell_at b kind q l ≡ row_cell b l p q
  unfolding row_cell
  stored_cell s = rw (← read, ← type, s)

  pub zero_cell_lem : storage_of l.mode tag ≡ Zero → zero_cell kind ≡ row_cell b l p q
  unfolding row_cell
  zero_cell_lem s = rw (← read, ← type, s)

  pub unknown_cell : storage_of l.mode tag ≡ Unknown → Err UnknownStorage ≡ row_cell b l p q
  unfolding row_cell
  unknown_cell s = rw (← read, ← type, s)
