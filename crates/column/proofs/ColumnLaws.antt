-- The cases of a column, one for each return of the code: x is its type byte, which says s and k, and n its name offset, as they were read. Assumes nothing.
use Rattle.std.specs.Prelude.{Some, None, Result, Ok, Err}
use mathlib.Core.Path.{◌≡◌, refl}
use mathlib.Core.List.{List}
use Prim.Native.Nat.{ℕ, ◌+◌, ◌%◌, ◌≤◌, ◌<◌}
use lib.ListN.{length}
use borrow.Author.Tests.{le-leb, lt-leb}
use Rattle.laws.specs.Lists.{at}
use Rattle.word.specs.Numbers.{be32}
use Rattle.refusal.specs.declared.Cause.{Cause}
use Rattle.refusal.specs.declared.Cause.TheVariants.{RanOut}
use Rattle.layout.specs.declared.Layout.{Layout}
use Rattle.cell.specs.declared.Cell.{Cell}
use Rattle.cell.specs.Parts.{end_of}
use Rattle.column.specs.declared.Storage.{Storage}
use Rattle.column.specs.Storages.{storage_of, in_record, constant_at}
use Rattle.column.specs.Columns.{column_of, column_from, named, column_at}

module _ (b : List ℕ) (p name : ℕ) (l : Layout) (x : ℕ) (s : Storage) (k : ℕ) (read : x ≡ at b p) (is : s ≡ storage_of l.mode x) (low : k ≡ x % 16) where
  by : (w : ℕ) (a : Result Cell Cause) → w ≡ in_record l.mode x → constant_at b s k (p + 5) l ≡ a → column_of name s k (p + w) a ≡ column_from b p name l
  unfolding column_from
  by w a e h = rw (← read, ← h, e, is, low)

  pub held : (w : ℕ) (c : Cell) → w ≡ in_record l.mode x → constant_at b s k (p + 5) l ≡ Ok c
      → Ok (record { name = name; storage = s; kind = k; constant = c; next = p + w }) ≡ column_from b p name l
  held w c e h = by w (Ok c) e h

  pub unheld : (cause : Cause) → constant_at b s k (p + 5) l ≡ Err cause → Err cause ≡ column_from b p name l
  unheld cause h = by (in_record l.mode x) (Err cause) refl h

module _ (b : List ℕ) (p : ℕ) (l : Layout) where
  pub cut : length b < p + 5 → Err RanOut ≡ column_at b p l
  unfolding column_at
  cut h = rw (lt-leb (p + 5) (length b) h)

  module _ (n : ℕ) (room : p + 5 ≤ length b) (read : n ≡ be32 b (p + 1)) where
    pub unnamed : end_of b (l.strings + n) ≡ None → Err RanOut ≡ column_at b p l
    unfolding column_at named
    unnamed e = rw (le-leb (p + 5) (length b) room, ← read, e)

    pub with_name : (z : ℕ) → end_of b (l.strings + n) ≡ Some z → column_from b p (l.strings + n) l ≡ column_at b p l
    unfolding column_at named
    with_name z e = rw (le-leb (p + 5) (length b) room, ← read, e)
