-- A look-up among known columns is one in both modes: the search marks the same column, and that is read alike. Assumes nothing.
use Rattle.std.specs.Prelude.{Option, Some, None, Result, Ok, Err}
use Rattle.column.specs.declared.Column.{Column}
use Rattle.refusal.specs.declared.Cause.{Cause}
use mathlib.Core.Path.{◌≡◌, refl, sym, ap, ◌∙◌}
use mathlib.Core.List.{List}
use mathlib.Core.Bool.{Bool, true, false}
use Prim.Native.Nat.{ℕ, zero, suc, ◌+◌, ◌-◌, ◌*◌, ◌%◌}
use lib.ListN.{drop}
use Rattle.laws.specs.Lists.{at}
use Rattle.word.specs.Numbers.{be32}
use Rattle.reading.specs.declared.TableMode.TheVariants.{Original, ZeroColumns}
use Rattle.layout.specs.declared.Layout.{Layout}
use Rattle.layout.specs.Layouts.{body_of}
use Rattle.cell.specs.Types.{width_of}
use Rattle.column.specs.declared.Storage.{Storage}
use Rattle.column.specs.Storages.{record_of, in_record, row_of, in_row}
use Rattle.column.specs.Columns.{column_at}
use Rattle.table.specs.Promises.{known, known_from, relaid}
use Rattle.table.proofs.ModeLaws.{storage_agrees, known_here, known_later, in_stays, column_agrees}
use Rattle.lookup.specs.declared.Mark.{Mark}
use Rattle.lookup.specs.Names.{spells}
use Rattle.lookup.specs.Search.{mark_if, search_from}
use Rattle.lookup.specs.Lookups.{moved, shift_in, column_cell, marked_cell, searched_cell, body_cell, cell_from}

-- a marked column is known
abbrev KnownMark : List ℕ → Option Mark → Type 0
KnownMark b None = Unit
KnownMark b (Some mark) = known (at b mark.entry) ≡ true

module _ (b : List ℕ) (l : Layout) (name : List ℕ) where
  abbrev zl : Layout
  zl = relaid ZeroColumns l

  abbrev ol : Layout
  ol = relaid Original l

  -- the mark after the column at p
  abbrev next : ℕ → ℕ → Option Mark → Option Mark
  next p q best = mark_if (spells b (l.strings + be32 b (p + 1) - 24) name) p q best

  search_agrees : (n p q : ℕ) (best : Option Mark) → known_from b n p ≡ true → search_from b zl name n p q best ≡ search_from b ol name n p q best
  unfolding search_from
  search_agrees zero p q best all = refl
  search_agrees (suc n) p q best all =
      let x = at b p in
      ap (λ (s : Storage). search_from b zl name n (p + record_of s (width_of (x % 16))) (q + row_of s (width_of (x % 16))) (next p q best)) (storage_agrees x (known_here b n p all))
      ∙ search_agrees n (p + in_record Original x) (q + in_row Original x) (next p q best) (known_later b n p all)

  mark_known : (t : Bool) (p q : ℕ) (best : Option Mark) → known (at b p) ≡ true → KnownMark b best → KnownMark b (mark_if t p q best)
  mark_known true p q best h k = h
  mark_known false p q best h k = k

  search_known : (n p q : ℕ) (best : Option Mark) → known_from b n p ≡ true → KnownMark b best → KnownMark b (search_from b ol name n p q best).mark
  unfolding search_from
  search_known zero p q best all k = k
  search_known (suc n) p q best all k =
      search_known n (p + in_record Original (at b p)) (q + in_row Original (at b p)) (next p q best) (known_later b n p all)
      (mark_known (spells b (l.strings + be32 b (p + 1) - 24) name) p q best (known_here b n p all) k)

  column_cell_agrees : (by p : ℕ) (x : Result Column Cause) → column_cell b by p zl x ≡ column_cell b by p ol x
  column_cell_agrees by p (Ok c) =
      ap (moved (shift_in c.storage by)) (in_stays b l ZeroColumns c.storage c.constant c.kind p ∙ sym (in_stays b l Original c.storage c.constant c.kind p))
  column_cell_agrees by p (Err why) = refl

  marked_agrees : (by p : ℕ) (m : Option Mark) → KnownMark b m → marked_cell b by p zl m ≡ marked_cell b by p ol m
  marked_agrees by p None k = refl
  marked_agrees by p (Some mark) k =
      ap (column_cell b by (p + mark.offset) zl) (column_agrees b l mark.entry k) ∙ column_cell_agrees by (p + mark.offset) (column_at b mark.entry ol)

  pub body_agrees : (by row : ℕ) → known_from b l.columns 0 ≡ true → body_cell b by zl name row ≡ body_cell b by ol name row
  unfolding body_cell
  body_agrees by row all =
      let found = search_from b ol name l.columns 0 0 None in
      ap (searched_cell b by zl row) (search_agrees l.columns 0 0 None all)
      ∙ marked_agrees by (l.start + row * found.width) found.mark (search_known l.columns 0 0 None all tt)

pub from_agrees : (bytes : List ℕ) (place : ℕ) (name : List ℕ) (row : ℕ) (l : Layout) → known_from (body_of (drop place bytes) l) l.columns 0 ≡ true
    → cell_from bytes place name row (relaid ZeroColumns l) ≡ cell_from bytes place name row (relaid Original l)
unfolding cell_from
from_agrees bytes place name row l all = rw (body_agrees (body_of (drop place bytes) l) l name (place + 32) row all)
