-- What a block that was read says of the next one's place, and that its table is accepted. Assumes nothing.
use Rattle.std.specs.Prelude.{Option, Result, Ok, Err}
use Rattle.cell.specs.declared.Cell.{Cell}
use Rattle.refusal.specs.declared.Refusal.{Refusal}
use Prim.Native.Nat.{ℕ, ◌+◌, ◌-◌}
use mathlib.Core.Path.{◌≡◌, refl, ap, ◌∙◌}
use mathlib.Core.Bool.{Bool, true, false, not, cond}
use mathlib.Core.List.{List}
use native.Mathlib.Omega.{arith}
use lib.ListN.{length}
use lib.Dec.{ltb, eqb}
use Rattle.word.specs.Numbers.{be32}
use Rattle.signature.specs.Signatures.{CRID, filename, stands_at}
use Rattle.refusal.specs.declared.Cause.{Cause}
use Rattle.refusal.specs.declared.Cause.TheVariants.{RanOut, NoFilm}
use Rattle.reading.specs.declared.Reading.{Reading}
use Rattle.table.specs.Tables.{table_at}
use Rattle.lookup.specs.Lookups.{after_table, cell_from, last_row}
use Rattle.layout.specs.declared.Layout.{Layout}
use Rattle.film_name.specs.declared.Name.{Name}
use Rattle.block.specs.Blocks.{refused_at, head_at, marked_at, tabled, coded, named, and_then, then_codec, then_name, marker_block, table_block, codec_block, name_block}
use Rattle.header_tables.specs.HeaderTables.{next_after}
use Rattle.header_tables.specs.Promises.{IsTable, HasTable}
use Rattle.block.specs.declared.CodecBlock.{CodecBlock}
use Rattle.block.specs.declared.NameBlock.{NameBlock}
use Rattle.codec.specs.Codecs.{codec_of}
use Rattle.film_name.specs.Names.{name_in}

-- ---- a step after another

pub record After (x : Result ℕ Refusal) (k : ℕ → Result ℕ Refusal) (n : ℕ) : Type 0 where
  pub next : ℕ
  pub first : x ≡ Ok next
  pub then : k next ≡ Ok n

pub and_then_lem : (k : ℕ → Result ℕ Refusal) (x : Result ℕ Refusal) (n : ℕ) → and_then k x ≡ Ok n → After x k n
and_then_lem k (Ok next) n e = record { next = next; first = refl; then = e }
and_then_lem k (Err refusal) n e = let z : ◌≡◌ {A = ℕ} 0 1 = cc in absurd (omega arith)

module _ (s : List ℕ) (p : ℕ) where
  -- ---- its head

  pub head_next : (letters : ℕ) (missing : Cause) (n : ℕ) → head_at s letters missing p ≡ Ok n → n ≡ next_after s p
  unfolding head_at next_after
  head_next letters missing n e = by_tests (ltb (length s - p) 4) (not (eqb (be32 s p) letters)) (ltb (length s - p) 8) e
    where
      by_tests : (t u v : Bool) → cond t (refused_at p RanOut) (cond u (refused_at p missing) (cond v (refused_at p RanOut) (Ok (p + 8 + be32 s (p + 4))))) ≡ Ok n → n ≡ p + 8 + be32 s (p + 4)
      by_tests true u v e = let z : ◌≡◌ {A = ℕ} 0 1 = cc in absurd (omega arith)
      by_tests false true v e = let z : ◌≡◌ {A = ℕ} 0 1 = cc in absurd (omega arith)
      by_tests false false true e = let z : ◌≡◌ {A = ℕ} 0 1 = cc in absurd (omega arith)
      by_tests false false false e = cc

  -- ---- with a marker

  marked_next : (marker : List ℕ) (unmarked : Cause) (next n : ℕ) → marked_at s marker unmarked p next ≡ Ok n → n ≡ next
  unfolding marked_at
  marked_next marker unmarked next n e = by_tests (ltb (length s - p) (0x20 + length marker)) (not (stands_at marker s (p + 0x20))) e
    where
      by_tests : (t u : Bool) → cond t (refused_at p RanOut) (cond u (refused_at p unmarked) (Ok next)) ≡ Ok n → n ≡ next
      by_tests true u e = let z : ◌≡◌ {A = ℕ} 0 1 = cc in absurd (omega arith)
      by_tests false true e = let z : ◌≡◌ {A = ℕ} 0 1 = cc in absurd (omega arith)
      by_tests false false e = cc

  pub marker_next : (letters : ℕ) (missing : Cause) (marker : List ℕ) (unmarked : Cause) (n : ℕ) → marker_block s letters missing marker unmarked p ≡ Ok n → n ≡ next_after s p
  unfolding marker_block
  marker_next letters missing marker unmarked n e =
      let a = and_then_lem (marked_at s marker unmarked p) (head_at s letters missing p) n e in
      marked_next marker unmarked a.next n a.then ∙ head_next letters missing a.next a.first

  -- ---- with a table

  tabled_next : (next n : ℕ) (answer : Result Layout Refusal) → tabled p next answer ≡ Ok n → IsTable answer × (n ≡ next)
  tabled_next next n (Ok l) e = (tt, cc)
  tabled_next next n (Err refusal) e = let z : ◌≡◌ {A = ℕ} 0 1 = cc in absurd (omega arith)

  pub table_next : (how : Reading) (letters : ℕ) (missing : Cause) (n : ℕ) → table_block s how letters missing p ≡ Ok n → HasTable s how (p + 0x20) × (n ≡ next_after s p)
  unfolding table_block
  table_next how letters missing n e =
      let a = and_then_lem (λ next. tabled p next (table_at s (p + 0x20) how.tables)) (head_at s letters missing p) n e in
      let t = tabled_next a.next n (table_at s (p + 0x20) how.tables) a.then in
      (t.0, t.1 ∙ head_next letters missing a.next a.first)

  -- ---- with a table that a cell is taken of

  pub coded_next : (next n : ℕ) (codec : Option ℕ) (k : Layout → Result Cell Refusal) (answer : Result Layout Refusal) → coded p next (after_table k answer) ≡ Ok (record { codec = codec; next = n }) → IsTable answer × (n ≡ next)
  coded_next next n codec k (Err refusal) e = let z : ◌≡◌ {A = ℕ} 0 1 = cc in absurd (omega arith)
  coded_next next n codec k (Ok l) e = (tt, by_cell (k l) e)
    where
      by_cell : (found : Result Cell Refusal) → coded p next found ≡ Ok (record { codec = codec; next = n }) → n ≡ next
      by_cell (Ok cell) e =
          let same : ◌≡◌ {A = CodecBlock} (record { codec = codec; next = n }) (record { codec = codec_of cell; next = next }) = cc in
          ap (λ (block : CodecBlock). block.next) same
      by_cell (Err refusal) e = let z : ◌≡◌ {A = ℕ} 0 1 = cc in absurd (omega arith)

  pub codec_next : (how : Reading) (letters : ℕ) (missing : Cause) (column : List ℕ) (codec : Option ℕ) (n : ℕ) → codec_block s how letters missing column p ≡ Ok (record { codec = codec; next = n })
      → HasTable s how (p + 0x20) × (n ≡ next_after s p)
  unfolding codec_block
  codec_next how letters missing column codec n e = by_head (head_at s letters missing p) refl e
    where
      by_head : (head : Result ℕ Refusal) → head_at s letters missing p ≡ head
          → then_codec (λ next. coded p next (after_table (cell_from s (p + 0x20) column 0) (table_at s (p + 0x20) how.tables))) head ≡ Ok (record { codec = codec; next = n })
          → HasTable s how (p + 0x20) × (n ≡ next_after s p)
      by_head (Err refusal) h e = let z : ◌≡◌ {A = ℕ} 0 1 = cc in absurd (omega arith)
      by_head (Ok next) h e =
          let t = coded_next next n codec (cell_from s (p + 0x20) column 0) (table_at s (p + 0x20) how.tables) e in
          (t.0, t.1 ∙ head_next letters missing next h)

-- ---- the first block

named_next : (next n : ℕ) (name : Option Name) (k : Layout → Result Cell Refusal) (answer : Result Layout Refusal) → named 0 next (after_table k answer) ≡ Ok (record { name = name; next = n }) → IsTable answer × (n ≡ next)
named_next next n name k (Err refusal) e = let z : ◌≡◌ {A = ℕ} 0 1 = cc in absurd (omega arith)
named_next next n name k (Ok l) e = (tt, by_cell (k l) e)
  where
    by_cell : (found : Result Cell Refusal) → named 0 next found ≡ Ok (record { name = name; next = n }) → n ≡ next
    by_cell (Ok cell) e =
        let same : ◌≡◌ {A = NameBlock} (record { name = name; next = n }) (record { name = name_in cell; next = next }) = cc in
        ap (λ (block : NameBlock). block.next) same
    by_cell (Err refusal) e = let z : ◌≡◌ {A = ℕ} 0 1 = cc in absurd (omega arith)

pub name_next : (s : List ℕ) (how : Reading) (name : Option Name) (n : ℕ) → name_block s how ≡ Ok (record { name = name; next = n }) → HasTable s how 0x20 × (n ≡ next_after s 0)
unfolding name_block
name_next s how name n e = by_head (head_at s CRID NoFilm 0) refl e
  where
    by_head : (head : Result ℕ Refusal) → head_at s CRID NoFilm 0 ≡ head
        → then_name (λ next. named 0 next (after_table (cell_from s 0x20 filename (last_row (table_at s 0x20 how.tables))) (table_at s 0x20 how.tables))) head ≡ Ok (record { name = name; next = n })
        → HasTable s how 0x20 × (n ≡ next_after s 0)
    by_head (Err refusal) h e = let z : ◌≡◌ {A = ℕ} 0 1 = cc in absurd (omega arith)
    by_head (Ok next) h e =
        let t = named_next next n name (cell_from s 0x20 filename (last_row (table_at s 0x20 how.tables))) (table_at s 0x20 how.tables) e in
        (t.0, t.1 ∙ head_next s 0 CRID NoFilm next h)
