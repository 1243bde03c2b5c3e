-- Example F, whole and cut, and a film of such blocks with audio: read to their chunks, by computing. Assumes nothing.
use Rattle.std.specs.Prelude.{None, Result, Ok}
use Rattle.header.specs.declared.Header.{Header}
use Rattle.refusal.specs.declared.Refusal.{Refusal}
use Prim.Native.Nat.{ℕ, zero, suc}
use mathlib.Core.Path.{◌≡◌, refl}
use mathlib.Core.List.{List, [], ◌∷◌, ◌++◌, map}
use mathlib.Core.Bool.{Bool, true, false}
use lib.ListN.{length, take}
use Rattle.refusal.specs.declared.Cause.TheVariants.{RanOut}
use Rattle.reading.specs.declared.Reading.{Reading}
use Rattle.signature.specs.Signatures.{same_bytes, header_end, metadata_end, contents_end}
use Rattle.layout.specs.Layouts.{counted_in, layout_in}
use Rattle.table.specs.Walks.{walk_of, columns_from, rows_from}
use Rattle.table.specs.Tables.{table_of}
use Rattle.lookup.specs.Lookups.{cell_from}
use Rattle.block.specs.Blocks.{head_at, marked_at, marker_block, table_block, codec_block, name_block, ahead_at, last_block}
use Rattle.header.specs.Headers.{step7_video, step7_table, step7, step6, step5, step4, refused, step3_audio, step3, step2, step1, header_of}

abbrev zeros : ℕ → List ℕ
zeros zero = []
zeros (suc n) = 0 ∷ zeros n

-- `CRID`, `@SFV`, `@SFA`
abbrev film : List ℕ
film = 0x43 ∷ 0x52 ∷ 0x49 ∷ 0x44 ∷ []

abbrev video : List ℕ
video = 0x40 ∷ 0x53 ∷ 0x46 ∷ 0x56 ∷ []

abbrev audio : List ℕ
audio = 0x40 ∷ 0x53 ∷ 0x46 ∷ 0x41 ∷ []

-- "empty tables (size 24)"
abbrev empty_table : List ℕ
empty_table = 0x40 ∷ 0x55 ∷ 0x54 ∷ 0x46 ∷ 0 ∷ 0 ∷ 0 ∷ 24 ∷ zeros 24

abbrev header_ends : List ℕ
header_ends = header_end ++ zeros 21

abbrev metadata_ends : List ℕ
metadata_ends = metadata_end ++ zeros 19

-- 64 bytes: letters, "block size 56", a header size, zeros, and 32 bytes at 0x20
abbrev block_of : List ℕ → ℕ → List ℕ → List ℕ
block_of letters size inside = letters ++ ((0 ∷ 0 ∷ 0 ∷ 56 ∷ 0 ∷ size ∷ zeros 22) ++ inside)

-- "Example F, 448 bytes, zero but for this"
F : List ℕ
F =
    block_of film 0 empty_table
    ++ (block_of video 0 empty_table
    ++ (block_of video 0 header_ends
    ++ (block_of video 0 empty_table
    ++ (block_of video 0 metadata_ends
    ++ (block_of video 24 (zeros 32)
    ++ block_of video 24 (contents_end ++ zeros 19))))))

-- the same with audio, as far as its chunks: a table, a `#HEADER END`, a table and a `#METADATA END` more
with_audio : List ℕ
with_audio =
    block_of film 0 empty_table
    ++ (block_of video 0 empty_table
    ++ (block_of audio 0 empty_table
    ++ (block_of video 0 header_ends
    ++ (block_of audio 0 header_ends
    ++ (block_of video 0 empty_table
    ++ (block_of audio 0 empty_table
    ++ (block_of video 0 metadata_ends
    ++ block_of audio 0 metadata_ends)))))))

-- nothing but whether there is audio, and where the chunks begin
abbrev told : Bool → ℕ → Result Header Refusal
told audio start = Ok (record { name = None; mpeg_codec = None; audio = audio; audio_codec = None; start = start })

F-size : length F ≡ 448
unfolding F
F-size = refl

-- F begins its chunks at 320. "F cut to 301 or 319 bytes accepted"; "to 300: 1 at 256." With audio "chunks follow the last block". However they are read
read : (how : Reading)
    → map (λ (s : List ℕ). header_of s how) (F ∷ take 319 F ∷ take 301 F ∷ take 300 F ∷ with_audio ∷ [])
    ≡ (told false 320 ∷ told false 320 ∷ told false 320 ∷ refused 256 RanOut ∷ told true 576 ∷ [])
unfolding F with_audio header_of step1 step2 step3_audio step3 step4 step5 step6 step7 step7_table step7_video name_block codec_block marker_block table_block ahead_at last_block head_at marked_at cell_from table_of layout_in counted_in walk_of columns_from rows_from same_bytes
read how = refl
