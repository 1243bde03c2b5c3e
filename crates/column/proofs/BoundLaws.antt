-- The constant of a column that is read, if it has a part, holds a part of the body. Assumes nothing.
use Rattle.std.specs.Prelude.{Option, Some, None, Result, Ok, Err}
use Rattle.column.specs.declared.Column.{Column}
use Rattle.cell.specs.declared.Cell.{Cell}
use Rattle.refusal.specs.declared.Cause.{Cause}
use mathlib.Core.List.{List}
use mathlib.Core.Bool.{Bool, true, false, cond}
use Prim.Native.Nat.{ℕ, ◌+◌, ◌%◌}
use lib.ListN.{length}
use lib.Dec.{leb}
use Rattle.laws.specs.Lists.{at}
use Rattle.word.specs.Numbers.{be32}
use Rattle.refusal.specs.declared.Cause.TheVariants.{RanOut}
use Rattle.layout.specs.declared.Layout.{Layout}
use Rattle.cell.specs.Parts.{end_of}
use Rattle.cell.proofs.BoundLaws.{Inside, Kept, cell_kept}
use Rattle.column.specs.declared.Storage.{Storage}
use Rattle.column.specs.declared.Storage.TheVariants.{Constant, Stored, Zero, Unknown}
use Rattle.column.specs.Storages.{storage_of, in_record, constant_at}
use Rattle.column.specs.Columns.{column_of, column_from, named, column_at}

abbrev pub KeptIn : List ℕ → Result Column Cause → Type 0
KeptIn b (Ok c) = Inside b c.constant
KeptIn b (Err cause) = Unit

module _ (b : List ℕ) where
  constant_kept : (x : Storage) (k p : ℕ) (l : Layout) → Kept b (constant_at b x k p l)
  constant_kept Constant k p l = cell_kept b k p l
  constant_kept Stored k p l = tt
  constant_kept Zero k p l = tt
  constant_kept Unknown k p l = tt

  column_of_kept : (name : ℕ) (s : Storage) (k next : ℕ) (x : Result Cell Cause) → Kept b x → KeptIn b (column_of name s k next x)
  column_of_kept name s k next (Ok c) h = h
  column_of_kept name s k next (Err cause) h = tt

  named_kept : (p name : ℕ) (l : Layout) (x : Option ℕ) → KeptIn b (named b p name l x)
  unfolding named column_from
  named_kept p name l (Some z) =
      let s = storage_of l.mode (at b p) in
      column_of_kept name s (at b p % 16) (p + in_record l.mode (at b p)) (constant_at b s (at b p % 16) (p + 5) l) (constant_kept s (at b p % 16) (p + 5) l)
  named_kept p name l None = tt

  pub column_kept : (p : ℕ) (l : Layout) → KeptIn b (column_at b p l)
  unfolding column_at
  column_kept p l = go (leb (p + 5) (length b))
    where
      go : (t : Bool)
          → KeptIn b (cond t (named b p (l.strings + be32 b (p + 1)) l (end_of b (l.strings + be32 b (p + 1)))) (Err RanOut))
      go true = named_kept p (l.strings + be32 b (p + 1)) l (end_of b (l.strings + be32 b (p + 1)))
      go false = tt
