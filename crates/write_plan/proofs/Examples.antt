-- A film of an empty name, three bytes of video and no codec, byte by byte. Assumes nothing.
use Rattle.std.specs.Prelude.{None}
use Prim.Native.Nat.{ℕ}
use mathlib.Core.Path.{◌≡◌, refl}
use mathlib.Core.List.{List, [], ◌∷◌, ◌++◌}
use mathlib.Core.Bool.{false}
use lib.ListN.{length}
use Rattle.word.specs.Bytes.{zeros}
use Rattle.write_blocks.specs.Blocks.{head_of, block_of}
use Rattle.write_blocks.specs.Tables.{table_head, table_with, name_table, codec_table}
use Rattle.write_plan.specs.declared.Packing.{Packing}
use Rattle.write_plan.specs.Payloads.{cut, payloads_of, by_turns}
use Rattle.write_plan.specs.Films.{bytes_of, header_blocks, chunk_blocks, film_bytes}

-- `CRID`, `@SFV`
abbrev CRID : List ℕ
CRID = 0x43 ∷ 0x52 ∷ 0x49 ∷ 0x44 ∷ []

abbrev SFV : List ℕ
SFV = 0x40 ∷ 0x53 ∷ 0x46 ∷ 0x56 ∷ []

-- block size 0x38, header size 0x18, no footer
abbrev filled : List ℕ
filled = 0 ∷ 0 ∷ 0 ∷ 0x38 ∷ 0 ∷ 0x18 ∷ 0 ∷ 0 ∷ zeros 20

-- `@UTF`, size 24
abbrev empty_table : List ℕ
empty_table = 0x40 ∷ 0x55 ∷ 0x54 ∷ 0x46 ∷ 0 ∷ 0 ∷ 0 ∷ 0x18 ∷ zeros 24

-- of 54 bytes: `@UTF`; size; version and row offset; string offset; data offset; name; one column, a row of 8 bytes; one row; the column, its cell and its name
abbrev name_table₀ : List ℕ
name_table₀ =
    0x40 ∷ 0x55 ∷ 0x54 ∷ 0x46 ∷ 0 ∷ 0 ∷ 0 ∷ 0x2E ∷ 0 ∷ 0 ∷ 0 ∷ 0x1D ∷ 0 ∷ 0 ∷ 0 ∷ 0x25 ∷ 0 ∷ 0 ∷ 0 ∷ 0x2E ∷ 0 ∷ 0 ∷ 0 ∷ 8 ∷ 0 ∷ 1 ∷ 0 ∷ 8 ∷ 0 ∷ 0 ∷ 0 ∷ 1
    ∷ 0x5B ∷ 0 ∷ 0 ∷ 0 ∷ 0 ∷ 0 ∷ 0 ∷ 0 ∷ 0 ∷ 0 ∷ 0 ∷ 0 ∷ 0 ∷ 0x66 ∷ 0x69 ∷ 0x6C ∷ 0x65 ∷ 0x6E ∷ 0x61 ∷ 0x6D ∷ 0x65 ∷ 0 ∷ []

abbrev pub packing : Packing
packing = record { audio = false; mpeg_codec = None; audio_codec = None; key = None }

unfoldable pub film : List ℕ
film =
    CRID ++ (0 ∷ 0 ∷ 0 ∷ 0x58 ∷ 0 ∷ 0x18 ∷ 0 ∷ 0x0A ∷ zeros 20) ++ name_table₀ ++ zeros 10
    ++ SFV ++ filled ++ empty_table
    ++ SFV ++ filled ++ (0x23 ∷ 0x48 ∷ 0x45 ∷ 0x41 ∷ 0x44 ∷ 0x45 ∷ 0x52 ∷ 0x20 ∷ 0x45 ∷ 0x4E ∷ 0x44 ∷ zeros 21)
    ++ SFV ++ filled ++ empty_table
    ++ SFV ++ filled ++ (0x23 ∷ 0x4D ∷ 0x45 ∷ 0x54 ∷ 0x41 ∷ 0x44 ∷ 0x41 ∷ 0x54 ∷ 0x41 ∷ 0x20 ∷ 0x45 ∷ 0x4E ∷ 0x44 ∷ zeros 19)
    ++ SFV ++ (0 ∷ 0 ∷ 0 ∷ 0x38 ∷ 0 ∷ 0x18 ∷ 0 ∷ 0x1D ∷ zeros 20) ++ (1 ∷ 2 ∷ 3 ∷ zeros 29)
    ++ SFV ++ filled ++ (0x23 ∷ 0x43 ∷ 0x4F ∷ 0x4E ∷ 0x54 ∷ 0x45 ∷ 0x4E ∷ 0x54 ∷ 0x53 ∷ 0x20 ∷ 0x45 ∷ 0x4E ∷ 0x44 ∷ zeros 19)

pub small_film : film_bytes [] (1 ∷ 2 ∷ 3 ∷ []) [] packing ≡ film
unfolding film film_bytes header_blocks chunk_blocks bytes_of block_of head_of name_table codec_table table_with table_head payloads_of cut by_turns
small_film = refl

pub small_size : length film ≡ 480
unfolding film
small_size = refl
