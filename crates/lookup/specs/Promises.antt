-- What a look-up promises. Each is proved under the same name in proofs/Promises.antt.
use Rattle.std.specs.Prelude.{ℕ, ◌+◌, ◌-◌, ◌≤◌, ◌<◌, ◌≡◌, ◌⊎◌, List, Bool, true, false, length, drop, Ok, Err}
use Rattle.reading.specs.declared.TableMode.{TableMode}
use Rattle.reading.specs.declared.TableMode.TheVariants.{Original, ZeroColumns}
use Rattle.word.specs.Numbers.{be32}
use Rattle.layout.specs.declared.Layout.{Layout}
use Rattle.layout.specs.Layouts.{layout_in, body_of}
use Rattle.cell.specs.declared.Cell.{Cell}
use Rattle.cell.specs.declared.Cell.TheVariants.{Nothing}
use Rattle.table.specs.Tables.{table_at}
use Rattle.refusal.specs.declared.Refusal.{Refusal}
use Rattle.table.specs.Promises.{known_in, is_of_atable}
use Rattle.lookup.specs.declared.numbers.Line.TheVariants.{Row}
use Rattle.lookup.specs.Names.{spells}
use Rattle.lookup.specs.Lookups.{end_of_part, cell_of, last_cell_of}
use Rattle.lookup.specs.Numbers.{record_at, cell_by}

-- A string or data part that is handed out lies within the slice, whatever the table says.
abbrev pub PartsLieWithin : Type 0
PartsLieWithin =
    (bytes : List ℕ) (place : ℕ) (m : TableMode) (name : List ℕ) (row : ℕ) (cell : Cell) → cell_of bytes place m name row ≡ Ok cell
    → end_of_part cell ≤ length bytes

-- Where no column has nibble 1 and all kinds are known, both modes give one answer, for every name and row, and for the last row.
abbrev pub ModesAgree : Type 0
ModesAgree =
    (bytes : List ℕ) (place : ℕ) (name : List ℕ) → known_in (drop place bytes) (layout_in (drop place bytes) Original) ≡ true
    → ((row : ℕ) → cell_of bytes place ZeroColumns name row ≡ cell_of bytes place Original name row)
    × (last_cell_of bytes place ZeroColumns name ≡ last_cell_of bytes place Original name)

-- ---- by name and by number

-- the column of a number has the name, in the body b
abbrev pub is_named : List ℕ → Layout → List ℕ → ℕ → Bool
is_named b l name k = spells b (l.strings + be32 b (record_at b l k + 1) - 24) name

-- a column has the name, and no later one does
pub record LastNamed (b : List ℕ) (l : Layout) (name : List ℕ) (k : ℕ) : Type 0 where
  pub within : k < l.columns
  pub named : is_named b l name k ≡ true
  pub last : (i : ℕ) → k < i → i < l.columns → is_named b l name i ≡ false

-- A look-up by name is the cell by number of the last column that has the name; where none has it, nothing.
abbrev pub LookUpIsACell : Type 0
LookUpIsACell =
    (bytes : List ℕ) (place : ℕ) (m : TableMode) (name : List ℕ) (row : ℕ) (l : Layout) → table_at bytes place m ≡ Ok l → row < l.rows
    → ((k : ℕ) × LastNamed (body_of (drop place bytes) l) l name k × (cell_of bytes place m name row ≡ cell_by bytes place m (Row row) k))
    ⊎ (((k : ℕ) → k < l.columns → is_named (body_of (drop place bytes) l) l name k ≡ false) × (cell_of bytes place m name row ≡ Ok Nothing))

-- A look-up is refused by 1, 3, 8, 9, 10 or 18, and by no other number.
abbrev pub LookUpsRefuseByThese : Type 0
LookUpsRefuseByThese =
    (bytes : List ℕ) (place : ℕ) (m : TableMode) (name : List ℕ) (row : ℕ) (refusal : Refusal) → cell_of bytes place m name row ≡ Err refusal
    → is_of_atable refusal.cause ≡ true
