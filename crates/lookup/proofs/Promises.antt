-- The promises of specs/Promises.antt, each under its name: a part lies within the body, which lies within the slice; and known columns
-- are read alike. Assumes nothing.
use Rattle.std.specs.Prelude.{Option, Some, None, Result, Ok, Err}
use Rattle.refusal.specs.declared.Refusal.{Refusal}
use mathlib.Core.Path.{◌≡◌, refl, sym, ap, ◌∙◌, subst}
use mathlib.Core.List.{List}
use mathlib.Core.Bool.{true, false}
use mathlib.Core.Logic.{◌⊎◌, inl, inr}
use Prim.Native.Nat.{ℕ, ◌+◌, ◌*◌, ◌≤◌, ◌<◌}
use native.Mathlib.Omega.{arith}
use lib.ListN.{length, drop}
use Rattle.reading.specs.declared.TableMode.{TableMode}
use Rattle.reading.specs.declared.TableMode.TheVariants.{Original, ZeroColumns}
use borrow.Author.Tests.{lt-ltb}
use Rattle.layout.specs.declared.Layout.{Layout}
use Rattle.layout.specs.Layouts.{layout_in, body_of}
use Rattle.cell.specs.declared.Cell.TheVariants.{Nothing}
use Rattle.table.specs.Tables.{table_at}
use Rattle.table.specs.Promises.{known_in, in_mode}
use Rattle.table.proofs.TableLaws.{laid_out}
use Rattle.table.proofs.ModeLaws.{own_mode}
use Rattle.table.proofs.Promises.{AcceptedLiesWithin}
use Rattle.table.proofs.Promises.{ModesAgree as agreed}
use Rattle.lookup.specs.declared.Mark.{Mark}
use Rattle.lookup.specs.declared.Search.{Search}
use Rattle.lookup.specs.declared.numbers.Line.TheVariants.{Row}
use Rattle.lookup.specs.Search.{search_from}
use Rattle.lookup.specs.Lookups.{after_table, placed, marked_cell, searched_cell, body_cell, cell_from, cell_of, last_row, last_cell_of}
use Rattle.lookup.specs.Numbers.{record_at, offset_at, line_cell, cell_by}
use Rattle.lookup.specs.Promises.{is_named, LastNamed}
use Rattle.lookup.specs.Promises as promised
use Rattle.lookup.proofs.NamedLaws.{searched}
use Rattle.lookup.proofs.LookupLaws.{end_of, from_end}
use Rattle.lookup.proofs.RefusalLaws.{FairLookup, lookup_fair}
use Rattle.lookup.proofs.ModeLaws.{from_agrees}

by_table : (bytes : List ℕ) (place : ℕ) (m : TableMode) (name : List ℕ) (row : ℕ) (x : Result Layout Refusal) → table_at bytes place m ≡ x
    → end_of (after_table (cell_from bytes place name row) x) ≤ length bytes
by_table bytes place m name row (Ok l) e = from_end bytes place name row l (AcceptedLiesWithin bytes place m l e).3
by_table bytes place m name row (Err refusal) e = omega arith

pub PartsLieWithin : promised.PartsLieWithin
PartsLieWithin bytes place m name row cell e = omega (arith, by_table bytes place m name row (table_at bytes place m) refl, ap end_of e)

-- ---- both modes

module _ (bytes : List ℕ) (place : ℕ) (name : List ℕ) (all : known_in (drop place bytes) (layout_in (drop place bytes) Original) ≡ true) where
  in_both : (row : ℕ) (x : Result Layout Refusal) → table_at bytes place Original ≡ x
      → after_table (cell_from bytes place name row) (in_mode ZeroColumns x) ≡ after_table (cell_from bytes place name row) x
  in_both row (Ok l) e =
      let laid = laid_out place (drop place bytes) Original l e in
      from_agrees bytes place name row l (rw laid at all) ∙ ap (cell_from bytes place name row) (own_mode (drop place bytes) Original l laid)
  in_both row (Err refusal) e = refl

  cell_agrees : (row : ℕ) → cell_of bytes place ZeroColumns name row ≡ cell_of bytes place Original name row
  cell_agrees row = ap (after_table (cell_from bytes place name row)) (agreed bytes place all) ∙ in_both row (table_at bytes place Original) refl

  last_alike : (x : Result Layout Refusal) → last_row (in_mode ZeroColumns x) ≡ last_row x
  last_alike (Ok l) = refl
  last_alike (Err refusal) = refl

  last_agrees : last_cell_of bytes place ZeroColumns name ≡ last_cell_of bytes place Original name
  last_agrees =
      cell_agrees (last_row (table_at bytes place ZeroColumns))
      ∙ ap (λ (row : ℕ). cell_of bytes place Original name row) (ap last_row (agreed bytes place all) ∙ last_alike (table_at bytes place Original))

pub ModesAgree : promised.ModesAgree
ModesAgree bytes place name all = (cell_agrees bytes place name all, last_agrees bytes place name all)

-- ---- by name and by number

module _ (bytes : List ℕ) (place : ℕ) (m : TableMode) (name : List ℕ) (row : ℕ) (l : Layout) (e : table_at bytes place m ≡ Ok l) (h : row < l.rows) where
  abbrev body : List ℕ
  body = body_of (drop place bytes) l

  abbrev found : Search
  found = search_from body l name l.columns 0 0 None

  by_name : cell_of bytes place m name row ≡ placed place (searched_cell body (place + 32) l row found)
  unfolding cell_from body_cell
  by_name = rw (e, lt-ltb row l.rows h)

  by_number : (k : ℕ) → k < l.columns → cell_by bytes place m (Row row) k ≡ placed place (line_cell body (place + 32) l (Row row) k)
  unfolding cell_by
  by_number k f = rw (laid_out place (drop place bytes) m l e, lt-ltb k l.columns f, lt-ltb row l.rows h)

  one_cell : (k : ℕ) (mark : Option Mark) → mark ≡ Some (record { entry = record_at body l k; offset = offset_at body l k }) → (width : ℕ) → width ≡ offset_at body l l.columns
      → marked_cell body (place + 32) (l.start + row * width) l mark ≡ line_cell body (place + 32) l (Row row) k
  unfolding line_cell
  one_cell k mark q width w = rw (q, w)

  no_cell : (mark : Option Mark) → mark ≡ None → (width : ℕ) → marked_cell body (place + 32) (l.start + row * width) l mark ≡ Ok Nothing
  no_cell mark q width = rw q

  by_search : (searched-width : found.width ≡ offset_at body l l.columns)
      → ((k : ℕ) × (0 ≤ k) × LastNamed body l name k × (found.mark ≡ Some (record { entry = record_at body l k; offset = offset_at body l k })))
      ⊎ (((i : ℕ) → 0 ≤ i → i < l.columns → is_named body l name i ≡ false) × (found.mark ≡ None))
      → ((k : ℕ) × LastNamed body l name k × (cell_of bytes place m name row ≡ cell_by bytes place m (Row row) k))
      ⊎ (((k : ℕ) → k < l.columns → is_named body l name k ≡ false) × (cell_of bytes place m name row ≡ Ok Nothing))
  by_search width (inl (k, f, last, mark)) =
      inl (k, last, by_name ∙ ap (placed place) (one_cell k found.mark mark found.width width) ∙ sym (by_number k last.within))
  by_search width (inr (none, mark)) =
      inr ((λ k f. none k (omega arith) f), by_name ∙ ap (placed place) (no_cell found.mark mark found.width))

pub LookUpIsACell : promised.LookUpIsACell
unfolding record_at offset_at
LookUpIsACell bytes place m name row l e h =
    let all = searched (body_of (drop place bytes) l) l name l.columns 0 (omega arith) None in
    by_search bytes place m name row l e h all.0 all.1

-- ---- refusals

pub LookUpsRefuseByThese : promised.LookUpsRefuseByThese
LookUpsRefuseByThese bytes place m name row refusal e = subst FairLookup e (lookup_fair bytes place m name row)
