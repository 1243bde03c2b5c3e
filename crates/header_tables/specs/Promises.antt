-- What is promised of the tables of a header. Proved under the same name in proofs/Promises.antt.
use Rattle.std.specs.Prelude.{ℕ, ◌≡◌, List, Result, Ok, Err}
use Rattle.refusal.specs.declared.Refusal.{Refusal}
use Rattle.layout.specs.declared.Layout.{Layout}
use Rattle.reading.specs.declared.Reading.{Reading}
use Rattle.table.specs.Tables.{table_at}
use Rattle.header.specs.declared.Header.{Header}
use Rattle.header.specs.Headers.{header_of}
use Rattle.header_tables.specs.declared.HeaderTables.{HeaderTables}
use Rattle.header_tables.specs.HeaderTables.{tables_in}

abbrev pub IsTable : Result Layout Refusal → Type 0
IsTable (Ok l) = Unit
IsTable (Err refusal) = ⊥

-- a table is accepted at a place
abbrev pub HasTable : List ℕ → Reading → ℕ → Type 0
HasTable s how place = IsTable (table_at s place how.tables)

-- where a place is not 0, a table is accepted there
pub record AllThere (s : List ℕ) (how : Reading) (tables : HeaderTables) : Type 0 where
  pub name : HasTable s how tables.name
  pub video : HasTable s how tables.video
  pub audio : (tables.audio ≡ 0 → ⊥) → HasTable s how tables.audio
  pub video_metadata : HasTable s how tables.video_metadata
  pub audio_metadata : (tables.audio_metadata ≡ 0 → ⊥) → HasTable s how tables.audio_metadata

-- At each place that is said of the header of a film, a table is accepted: the walk over the header has read it there.
abbrev pub TablesStandThere : Type 0
TablesStandThere = (s : List ℕ) (how : Reading) (header : Header) → header_of s how ≡ Ok header → AllThere s how (tables_in s header.audio)
