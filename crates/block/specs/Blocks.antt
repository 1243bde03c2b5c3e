-- Rules H: a block. s is the container, how says how it is read, and p is the block's start, the place of each of its refusals.
use Rattle.std.specs.Prelude.{ℕ, ◌+◌, ◌-◌, ◌*◌, ◌/◌, List, [], ◌∷◌, not, cond, length, ltb, eqb, Result, Ok, Err}
use Rattle.cell.specs.declared.Cell.{Cell}
use Rattle.refusal.specs.declared.Refusal.{Refusal}
use Rattle.layout.specs.declared.Layout.{Layout}
use Rattle.word.specs.Numbers.{be32}
use Rattle.refusal.specs.declared.Cause.{Cause}
use Rattle.refusal.specs.declared.Cause.TheVariants as cause
use Rattle.reading.specs.declared.Reading.{Reading}
use Rattle.signature.specs.Signatures.{CRID, SFV, SFA, metadata_end, stands_at, filename}
use Rattle.film_name.specs.Names.{name_in}
use Rattle.codec.specs.Codecs.{codec_of}
use Rattle.table.specs.Tables.{table_at}
use Rattle.lookup.specs.Lookups.{cell_of, last_cell_of}
use Rattle.block.specs.declared.CodecBlock.{CodecBlock}
use Rattle.block.specs.declared.NameBlock.{NameBlock}
use Rattle.block.specs.declared.Ahead.{Ahead}
use Rattle.block.specs.declared.Ahead.TheVariants.{Sound, Other, Cut}

-- Each refusal carries "the start of the block being read"
abbrev pub refused_at : ℕ → Cause → Result ℕ Refusal
refused_at p why = Err (record { cause = why; place = p })

-- "A block starts with four letters and a u32 size; the next stands at start + 8 + size." Other letters are refused as `missing`
unfoldable pub head_at : List ℕ → ℕ → Cause → ℕ → Result ℕ Refusal
head_at s letters missing p =
    cond (ltb (length s - p) 4) (refused_at p cause.RanOut)
    (cond (not (eqb (be32 s p) letters)) (refused_at p missing)
    (cond (ltb (length s - p) 8) (refused_at p cause.RanOut)
    (Ok (p + 8 + be32 s (p + 4)))))

-- "Its table or marker stands at start + 0x20": the marker, all of it. Another is refused as `unmarked`
unfoldable pub marked_at : List ℕ → List ℕ → Cause → ℕ → ℕ → Result ℕ Refusal
marked_at s marker unmarked p next =
    cond (ltb (length s - p) (0x20 + length marker)) (refused_at p cause.RanOut)
    (cond (not (stands_at marker s (p + 0x20))) (refused_at p unmarked)
    (Ok next))

-- a table that is "read and checked"
abbrev pub tabled : ℕ → ℕ → Result Layout Refusal → Result ℕ Refusal
tabled p next (Ok l) = Ok next
tabled p next (Err refusal) = refused_at p refusal.cause

-- a table that gives a codec
abbrev pub coded : ℕ → ℕ → Result Cell Refusal → Result CodecBlock Refusal
coded p next (Ok cell) = Ok (record { codec = codec_of cell; next = next })
coded p next (Err refusal) = Err (record { cause = refusal.cause; place = p })

-- a table that gives the name
abbrev pub named : ℕ → ℕ → Result Cell Refusal → Result NameBlock Refusal
named p next (Ok cell) = Ok (record { name = name_in cell; next = next })
named p next (Err refusal) = Err (record { cause = refusal.cause; place = p })

-- what comes after a head: k, with the place of the next block
abbrev pub and_then : (ℕ → Result ℕ Refusal) → Result ℕ Refusal → Result ℕ Refusal
and_then k (Ok next) = k next
and_then k (Err refusal) = Err refusal

abbrev pub then_codec : (ℕ → Result CodecBlock Refusal) → Result ℕ Refusal → Result CodecBlock Refusal
then_codec k (Ok next) = k next
then_codec k (Err refusal) = Err refusal

abbrev pub then_name : (ℕ → Result NameBlock Refusal) → Result ℕ Refusal → Result NameBlock Refusal
then_name k (Ok next) = k next
then_name k (Err refusal) = Err refusal

-- a block with a marker
unfoldable pub marker_block : List ℕ → ℕ → Cause → List ℕ → Cause → ℕ → Result ℕ Refusal
marker_block s letters missing marker unmarked p = and_then (marked_at s marker unmarked p) (head_at s letters missing p)

-- a block with a table
unfoldable pub table_block : List ℕ → Reading → ℕ → Cause → ℕ → Result ℕ Refusal
table_block s how letters missing p = and_then (λ next. tabled p next (table_at s (p + 0x20) how.tables)) (head_at s letters missing p)

-- a block with a table that gives a codec: "that cell in the first row"
unfoldable pub codec_block : List ℕ → Reading → ℕ → Cause → List ℕ → ℕ → Result CodecBlock Refusal
codec_block s how letters missing column p = then_codec (λ next. coded p next (cell_of s (p + 0x20) how.tables column 0)) (head_at s letters missing p)

-- "`CRID` at 0, table (it gives the name)": "the `filename` cell of the last row"
unfoldable pub name_block : List ℕ → Reading → Result NameBlock Refusal
name_block s how = then_name (λ next. named 0 next (last_cell_of s 0x20 how.tables filename)) (head_at s CRID cause.NoFilm 0)

-- "If `@SFA` is next"; fewer than four bytes are neither
unfoldable pub ahead_at : List ℕ → ℕ → Ahead
ahead_at s p = cond (ltb (length s - p) 4) Cut (cond (eqb (be32 s p) SFA) Sound Other)

-- "chunks begin at s + 45 rounded up to a multiple of 4, plus 16"
abbrev pub chunks_after : ℕ → ℕ
chunks_after p = (p + 45 + 3) / 4 * 4 + 16

-- "`@SFV` at s, marker at s + 32"; "This block's size is not read."
unfoldable pub last_block : List ℕ → ℕ → Result ℕ Refusal
last_block s p =
    cond (ltb (length s - p) 4) (refused_at p cause.RanOut)
    (cond (not (eqb (be32 s p) SFV)) (refused_at p cause.NoVideo)
    (marked_at s metadata_end cause.NoMetadataEnd p (chunks_after p)))
