-- Rules T: a table. Its refusals are those of its layout, then those of its columns and rows.
use Rattle.std.specs.Prelude.{ℕ, List, drop, Result, Ok, Err}
use Rattle.refusal.specs.declared.Refusal.{Refusal}
use Rattle.reading.specs.declared.TableMode.{TableMode}
use Rattle.refusal.specs.declared.Cause.{Cause}
use Rattle.layout.specs.declared.Layout.{Layout}
use Rattle.layout.specs.Layouts.{layout_in, body_of}
use Rattle.table.specs.Walks.{walk_of}

-- "the table's own start when a table is read by itself"
abbrev pub refused_at : ℕ → Cause → Result Layout Refusal
refused_at place why = Err (record { cause = why; place = place })

abbrev pub table_to : ℕ → Layout → Result ℕ Cause → Result Layout Refusal
table_to place l (Ok q) = Ok l
table_to place l (Err why) = refused_at place why

-- what comes after the layout of the table that t begins with
abbrev pub table_from : ℕ → List ℕ → Result Layout Cause → Result Layout Refusal
table_from place t (Ok l) = table_to place l (walk_of (body_of t l) l)
table_from place t (Err why) = refused_at place why

unfoldable pub table_of : ℕ → List ℕ → TableMode → Result Layout Refusal
table_of place t m = table_from place t (layout_in t m)

-- the table at a place of a slice, read in a mode; past the slice's end it has no bytes
abbrev pub table_at : List ℕ → ℕ → TableMode → Result Layout Refusal
table_at bytes place m = table_of place (drop place bytes) m
