-- The cases of a look-up, one for each return of the code; and that a part of a table at a place ends within the slice. Assumes nothing.
use Rattle.std.specs.Prelude.{Result, Ok, Err}
use Rattle.cell.specs.declared.Cell.{Cell}
use Rattle.refusal.specs.declared.Cause.{Cause}
use mathlib.Core.Path.{◌≡◌, refl, ap}
use mathlib.Core.List.{List}
use mathlib.Core.Bool.{Bool, true, false, cond}
use Prim.Native.Nat.{ℕ, ◌+◌, ◌-◌, ◌≤◌, ◌<◌}
use native.Mathlib.Omega.{arith}
use lib.ListN.{length, take, drop, length-take, length-drop}
use lib.Seq.{drop-drop}
use lib.Dec.{ltb}
use borrow.Author.Tests.{lt-ltb, le-ltb}
use Rattle.reading.specs.declared.TableMode.{TableMode}
use Rattle.refusal.specs.declared.Refusal.{Refusal}
use Rattle.layout.specs.declared.Layout.{Layout}
use Rattle.layout.specs.Layouts.{body_of}
use Rattle.cell.specs.declared.Cell.TheVariants.{Nothing}
use Rattle.table.specs.Tables.{table_at}
use Rattle.lookup.specs.Lookups.{end_of_part, end_of_answer, body_cell, placed, cell_from, cell_of, last_cell_of}
use Rattle.lookup.proofs.CellLaws.{body_cell_end}

-- where the part of an answer ends, 0 where there is none
abbrev pub end_of : Result Cell Refusal → ℕ
end_of (Ok c) = end_of_part c
end_of (Err refusal) = 0

module _ (bytes : List ℕ) (place : ℕ) (name : List ℕ) where
  module _ (row : ℕ) (l : Layout) where
    pub no_row : l.rows ≤ row → Ok Nothing ≡ cell_from bytes place name row l
    unfolding cell_from
    no_row h = rw (le-ltb row l.rows h)

    pub in_row : (x : Result Cell Cause) → row < l.rows → x ≡ body_cell (take (place + 32 + l.size - (place + 32)) (drop (place + 32) bytes)) (place + 32) l name row
        → placed place x ≡ cell_from bytes place name row l
    unfolding cell_from
    in_row x h e =
        let size : place + 32 + l.size - (place + 32) ≡ l.size = omega arith in
        rw (lt-ltb row l.rows h, drop-drop 32 place bytes) (ap (placed place) (rw size at e))

    placed_end : (x : Result Cell Cause) → end_of (placed place x) ≡ end_of_answer x
    placed_end (Ok c) = refl
    placed_end (Err why) = refl

    by_row : place + (32 + l.size) ≤ length bytes → (t : Bool)
        → end_of (cond t (placed place (body_cell (body_of (drop place bytes) l) (place + 32) l name row)) (Ok Nothing)) ≤ length bytes
    by_row h true =
        let b = body_of (drop place bytes) l in
        omega
        (arith, placed_end (body_cell b (place + 32) l name row), body_cell_end b (place + 32) l name row, length-take l.size (drop 32 (drop place bytes)), length-drop 32 (drop place bytes), length-drop place bytes)
    by_row h false = omega arith

    pub from_end : place + (32 + l.size) ≤ length bytes → end_of (cell_from bytes place name row l) ≤ length bytes
    unfolding cell_from
    from_end h = by_row h (ltb row l.rows)

  module _ (m : TableMode) where
    pub no_table : (row : ℕ) (x : Refusal) → table_at bytes place m ≡ Err x → Err x ≡ cell_of bytes place m name row
    no_table row x e = rw e

    pub in_table : (row : ℕ) (l : Layout) → table_at bytes place m ≡ Ok l → cell_from bytes place name row l ≡ cell_of bytes place m name row
    in_table row l e = rw e

    pub no_last : (x : Refusal) → table_at bytes place m ≡ Err x → Err x ≡ last_cell_of bytes place m name
    no_last x e = rw e

    pub last_in_table : (l : Layout) → table_at bytes place m ≡ Ok l → cell_from bytes place name (l.rows - 1) l ≡ last_cell_of bytes place m name
    last_in_table l e = rw e
