-- The cases of a table, one for each return of the code; and what a table that was read is known to have. Assumes nothing.
use Rattle.std.specs.Prelude.{Result, Ok, Err}
use mathlib.Core.Path.{◌≡◌, sym, ap}
use mathlib.Core.List.{List}
use Prim.Native.Nat.{ℕ, ◌-◌, ◌≤◌, ◌<◌}
use native.Mathlib.Omega.{arith}
use lib.ListN.{length, take, drop, length-drop}
use lib.Seq.{take_all}
use Rattle.reading.specs.declared.TableMode.{TableMode}
use Rattle.refusal.specs.declared.Cause.{Cause}
use Rattle.refusal.specs.declared.Cause.TheVariants as cause
use Rattle.layout.specs.declared.Layout.{Layout}
use Rattle.layout.specs.Layouts.{layout_in, body_of}
use Rattle.layout.proofs.LayoutLaws.{short}
use Rattle.table.specs.Walks.{walk_of}
use Rattle.table.specs.Tables.{refused_at, table_to, table_from, table_of}

module _ (place : ℕ) (t : List ℕ) where
  pub unlaid : (m : TableMode) (why : Cause) → layout_in t m ≡ Err why → refused_at place why ≡ table_of place t m
  unfolding table_of
  unlaid m why e = sym (ap (table_from place t) e)

  pub walked : (m : TableMode) (l : Layout) → layout_in t m ≡ Ok l → table_to place l (walk_of (body_of t l) l) ≡ table_of place t m
  unfolding table_of
  walked m l e = sym (ap (table_from place t) e)

  -- a table that was read has the layout that its header says
  to_table : (l m : Layout) (w : Result ℕ Cause) → table_to place m w ≡ Ok l → m ≡ l
  to_table l m (Ok q) e = cc
  to_table l m (Err why) e = let z : ◌≡◌ {A = ℕ} 0 1 = cc in absurd (omega arith)

  from_layout : (l : Layout) (x : Result Layout Cause) → table_from place t x ≡ Ok l → x ≡ Ok l
  from_layout l (Ok m) e = ap Ok (to_table l m (walk_of (body_of t m) m) e)
  from_layout l (Err why) e = let z : ◌≡◌ {A = ℕ} 0 1 = cc in absurd (omega arith)

  pub laid_out : (m : TableMode) (l : Layout) → table_of place t m ≡ Ok l → layout_in t m ≡ Ok l
  unfolding table_of
  laid_out m l e = from_layout l (layout_in t m) e

-- ---- a table at a place

-- past the end there are no bytes
pub past_the_end : (bytes : List ℕ) (place : ℕ) (m : TableMode) → length bytes < place → refused_at place cause.RanOut ≡ table_of place (drop place bytes) m
past_the_end bytes place m h =
    unlaid place (drop place bytes) m cause.RanOut (sym (short (drop place bytes) m (omega (arith, length-drop place bytes))))

-- what a slice has from a place on
pub from_place : (bytes : List ℕ) (place : ℕ) → place ≤ length bytes → take (length bytes - place) (drop place bytes) ≡ drop place bytes
from_place bytes place h = take_all (length bytes - place) (drop place bytes) (omega (arith, length-drop place bytes))
