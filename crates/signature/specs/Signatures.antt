-- Rules H and C: the letters, as big-endian numbers, the markers, and the names of columns.
use Rattle.std.specs.Prelude.{ℕ, List, [], ◌∷◌, Bool, true, false, ◌&&◌, length, eqb}
use Rattle.part.specs.Parts.{part_at}

-- `CRID`, `@SFV`, `@SFA`
abbrev pub CRID : ℕ
CRID = 0x43524944

abbrev pub SFV : ℕ
SFV = 0x40534656

abbrev pub SFA : ℕ
SFA = 0x40534641

-- `#HEADER END`, `#METADATA END`, `#CONTENTS END`
abbrev pub header_end : List ℕ
header_end = 0x23 ∷ 0x48 ∷ 0x45 ∷ 0x41 ∷ 0x44 ∷ 0x45 ∷ 0x52 ∷ 0x20 ∷ 0x45 ∷ 0x4E ∷ 0x44 ∷ []

abbrev pub metadata_end : List ℕ
metadata_end = 0x23 ∷ 0x4D ∷ 0x45 ∷ 0x54 ∷ 0x41 ∷ 0x44 ∷ 0x41 ∷ 0x54 ∷ 0x41 ∷ 0x20 ∷ 0x45 ∷ 0x4E ∷ 0x44 ∷ []

abbrev pub contents_end : List ℕ
contents_end = 0x23 ∷ 0x43 ∷ 0x4F ∷ 0x4E ∷ 0x54 ∷ 0x45 ∷ 0x4E ∷ 0x54 ∷ 0x53 ∷ 0x20 ∷ 0x45 ∷ 0x4E ∷ 0x44 ∷ []

-- the names of the columns that a film's header is read from: `filename`, `mpeg_codec`, `audio_codec`
abbrev pub filename : List ℕ
filename = 0x66 ∷ 0x69 ∷ 0x6C ∷ 0x65 ∷ 0x6E ∷ 0x61 ∷ 0x6D ∷ 0x65 ∷ []

abbrev pub mpeg_codec : List ℕ
mpeg_codec = 0x6D ∷ 0x70 ∷ 0x65 ∷ 0x67 ∷ 0x5F ∷ 0x63 ∷ 0x6F ∷ 0x64 ∷ 0x65 ∷ 0x63 ∷ []

abbrev pub audio_codec : List ℕ
audio_codec = 0x61 ∷ 0x75 ∷ 0x64 ∷ 0x69 ∷ 0x6F ∷ 0x5F ∷ 0x63 ∷ 0x6F ∷ 0x64 ∷ 0x65 ∷ 0x63 ∷ []

-- two lists of bytes are one
unfoldable pub same_bytes : List ℕ → List ℕ → Bool
same_bytes [] [] = true
same_bytes [] (y ∷ ys) = false
same_bytes (x ∷ xs) [] = false
same_bytes (x ∷ xs) (y ∷ ys) = eqb x y && same_bytes xs ys

-- a marker stands at a place of a slice, all of it
abbrev pub stands_at : List ℕ → List ℕ → ℕ → Bool
stands_at marker bytes place = same_bytes (part_at bytes place (length marker)) marker
