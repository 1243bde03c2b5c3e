-- Rule O3: what the blocks of the builder's header hold. The offsets are the builder's own numbers: in none of the three tables do rows, strings or data stand there.
use Rattle.std.specs.Prelude.{ℕ, ◌+◌, ◌/◌, List, [], ◌∷◌, ◌++◌, length}
use Rattle.word.specs.Bytes.{bytes16, bytes32}
use Rattle.write_blocks.specs.Tables.{UTF}

-- a table's 32 bytes: its size, version 1, where rows, strings and data stand, its name at 0, columns, row size, and one row
abbrev pub old_table : ℕ → ℕ → ℕ → ℕ → ℕ → ℕ → List ℕ
old_table size rows strings blobs columns width =
    bytes32 UTF ++ bytes32 size ++ bytes16 1 ++ bytes16 rows ++ bytes32 strings ++ bytes32 blobs ++ bytes32 0 ++ bytes16 columns ++ bytes16 width ++ bytes32 1

-- `CRIUSF_DIR_STREAM`, `filename`
abbrev pub name_strings : List ℕ
name_strings =
    0x43 ∷ 0x52 ∷ 0x49 ∷ 0x55 ∷ 0x53 ∷ 0x46 ∷ 0x5F ∷ 0x44 ∷ 0x49 ∷ 0x52 ∷ 0x5F ∷ 0x53 ∷ 0x54 ∷ 0x52 ∷ 0x45 ∷ 0x41 ∷ 0x4D ∷ 0
    ∷ 0x66 ∷ 0x69 ∷ 0x6C ∷ 0x65 ∷ 0x6E ∷ 0x61 ∷ 0x6D ∷ 0x65 ∷ 0 ∷ []

-- up to the name of n bytes: one column, a string in the row
abbrev pub name_start : ℕ → List ℕ
name_start n = old_table (61 + n) 25 29 (57 + n) 1 4 ++ (0x5A ∷ bytes32 18) ++ bytes32 27 ++ name_strings

unfoldable pub old_names : List ℕ → List ℕ
old_names name = name_start (length name) ++ (name ++ (0 ∷ []))

-- `VIDEO_HDRINFO`, `width`, `height`, `total_frames`
abbrev pub video_strings : List ℕ
video_strings =
    0x56 ∷ 0x49 ∷ 0x44 ∷ 0x45 ∷ 0x4F ∷ 0x5F ∷ 0x48 ∷ 0x44 ∷ 0x52 ∷ 0x49 ∷ 0x4E ∷ 0x46 ∷ 0x4F ∷ 0
    ∷ 0x77 ∷ 0x69 ∷ 0x64 ∷ 0x74 ∷ 0x68 ∷ 0 ∷ 0x68 ∷ 0x65 ∷ 0x69 ∷ 0x67 ∷ 0x68 ∷ 0x74 ∷ 0
    ∷ 0x74 ∷ 0x6F ∷ 0x74 ∷ 0x61 ∷ 0x6C ∷ 0x5F ∷ 0x66 ∷ 0x72 ∷ 0x61 ∷ 0x6D ∷ 0x65 ∷ 0x73 ∷ 0 ∷ []

-- 1920 by 1080 whatever the video, and "total frames are length / 1000", here of n bytes
unfoldable pub old_video : ℕ → List ℕ
old_video n =
    old_table 91 31 43 83 3 12 ++ (0x54 ∷ bytes32 14) ++ (0x54 ∷ bytes32 20) ++ (0x54 ∷ bytes32 27) ++ bytes32 1920 ++ bytes32 1080 ++ bytes32 (n / 1000) ++ video_strings

-- `AUDIO_HDRINFO`, `stream_id`
abbrev pub audio_strings : List ℕ
audio_strings =
    0x41 ∷ 0x55 ∷ 0x44 ∷ 0x49 ∷ 0x4F ∷ 0x5F ∷ 0x48 ∷ 0x44 ∷ 0x52 ∷ 0x49 ∷ 0x4E ∷ 0x46 ∷ 0x4F ∷ 0
    ∷ 0x73 ∷ 0x74 ∷ 0x72 ∷ 0x65 ∷ 0x61 ∷ 0x6D ∷ 0x5F ∷ 0x69 ∷ 0x64 ∷ 0 ∷ []

-- which audio it is, from 0 on
unfoldable pub old_audio : ℕ → List ℕ
old_audio audio = old_table 57 16 20 48 1 4 ++ (0x54 ∷ bytes32 14) ++ bytes32 audio ++ audio_strings
