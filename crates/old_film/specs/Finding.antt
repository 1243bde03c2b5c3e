-- Rules O7 and O8: recognising is rebuilding. A film is the builder's exactly when writing it anew from its own parts gives the same bytes. Here with at most one audio.
use Rattle.std.specs.Prelude.{ℕ, ◌+◌, ◌-◌, List, [], ◌∷◌, ◌++◌, Bool, cond, ◌&&◌, length, drop, replicate, eqb, Option, Some, None}
use Rattle.word.specs.Numbers.{be32}
use Rattle.part.specs.Parts.{part_at}
use Rattle.signature.specs.Signatures.{CRID, SFV, SFA, same_bytes, stands_at}
use Rattle.utf8.specs.Utf8.{is_utf8}
use Rattle.word.specs.Bytes.{zeros, padding}
use Rattle.turns.specs.declared.Form.TheVariants.{Old}
use Rattle.turns.specs.Turns.{Read, read_in, turns_by}
use Rattle.old_film.specs.declared.OldFilm.{OldFilm}
use Rattle.old_film.specs.Blocks.{old_head, table_block}
use Rattle.old_film.specs.Tables.{name_start, old_video, old_audio}
use Rattle.old_film.specs.Films.{old_ends, old_bytes}

-- a film's parts: its name, whether there is audio, where its chunks start, and what they hold
pub record Parts : Type 0 where
  pub name : List ℕ
  pub audio : Bool
  pub start : ℕ
  pub read : Read

-- the name, which stands 96 bytes on: its length is the first block's size less 89
abbrev pub name_in : List ℕ → List ℕ
name_in container = part_at container 96 (be32 container 4 - 89)

-- the size of the first block
abbrev pub name_size : ℕ → ℕ
name_size n = 97 + n + padding (97 + n)

-- how many audios there are, of which there is one or none
abbrev pub audio_count : Bool → ℕ
audio_count audio = cond audio 1 0

-- the size of an audio's block
abbrev pub audio_size : Bool → ℕ
audio_size audio = cond audio 0x60 0

abbrev pub parts_from : List ℕ → List ℕ → Bool → ℕ → Parts
parts_from container name audio start = record { name = name; audio = audio; start = start; read = read_in Old audio (drop start container) }

abbrev pub parts_by : List ℕ → List ℕ → Bool → Parts
parts_by container name audio = parts_from container name audio (name_size (length name) + 0x80 + audio_size audio)

unfoldable pub parts_of : List ℕ → Parts
parts_of container = parts_by container (name_in container) (stands_at (table_block SFA (old_audio 0)) container (name_size (length (name_in container)) + 0x80))

-- the audios, of which there is one or none
abbrev pub audios_of : Bool → List ℕ → List (List ℕ)
audios_of audio bytes = cond audio (bytes ∷ []) []

-- the film that the builder writes from parts
abbrev pub rebuilt : Parts → List ℕ
rebuilt parts = old_bytes parts.name parts.read.video (audios_of parts.audio parts.read.audio)

-- "any byte that differs"; "a film name that is not UTF-8 can't come from it"
abbrev pub is_old : List ℕ → Bool
is_old container = is_utf8 (parts_of container).name && same_bytes container (rebuilt (parts_of container))

-- as the code gives it
abbrev pub film_by : Parts → OldFilm
film_by parts = record { name = length parts.name; audio = parts.audio; start = parts.start; turns = turns_by parts.read }

unfoldable pub found_in : List ℕ → Option OldFilm
found_in container = cond (is_old container) (Some (film_by (parts_of container))) None

-- ---- what is left to compare, where the blocks of audios and the chunks stand as they were read

-- the ends of a video and so many audios, and nothing behind them
abbrev pub closes_with : List ℕ → ℕ → ℕ → Bool
closes_with container place count = stands_at (old_ends (replicate count [])) container place && eqb (length container - place) (length (old_ends (replicate count [])))

-- the blocks of a name of n bytes and of a video of v bytes, and the ends
abbrev pub stands_around : List ℕ → ℕ → ℕ → ℕ → ℕ → Bool
stands_around container n v end count =
    stands_at (old_head CRID (89 + n) ++ name_start n) container 0 && stands_at (zeros (1 + padding (97 + n))) container (96 + n)
    && stands_at (table_block SFV (old_video v)) container (name_size n) && closes_with container end count
