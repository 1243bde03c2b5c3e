-- Rules O4 to O6: the container of the old builder, whole.
use Rattle.std.specs.Prelude.{ℕ, zero, suc, ◌+◌, List, [], ◌∷◌, ◌++◌, map, length, drop}
use Rattle.signature.specs.Signatures.{CRID, SFV, SFA}
use Rattle.turns.specs.declared.Form.TheVariants.{Old}
use Rattle.turns.specs.declared.Track.TheVariants.{Video, Audio}
use Rattle.turns.specs.Turns.{next_of}
use Rattle.old_film.specs.Blocks.{table_block, end_block}
use Rattle.old_film.specs.Tables.{old_names, old_video, old_audio}

-- a block for each audio, from a number on
unfoldable pub audio_blocks : ℕ → List (List ℕ) → List ℕ
audio_blocks number [] = []
audio_blocks number (audio ∷ audios) = table_block SFA (old_audio number) ++ audio_blocks (number + 1) audios

-- the next chunk of each audio, from a number on
unfoldable pub old_audios : ℕ → ℕ → List (List ℕ) → List ℕ
old_audios from number [] = []
old_audios from number (audio ∷ audios) = next_of Old (Audio number) from audio ++ old_audios from (number + 1) audios

-- n turns: the next chunk of the video, and that of each audio
unfoldable pub old_turns : ℕ → ℕ → List ℕ → List (List ℕ) → List ℕ
old_turns zero from video audios = []
old_turns (suc n) from video audios =
    next_of Old Video from video ++ (old_audios from 0 audios ++ old_turns n (from + 0x10000) (drop 0x10000 video) (map (drop 0x10000) audios))

-- how many bytes the audios have
unfoldable pub bytes_in : List (List ℕ) → ℕ
bytes_in [] = 0
bytes_in (audio ∷ audios) = length audio + bytes_in audios

-- an `@END` for the video, and one for each audio
unfoldable pub old_ends : List (List ℕ) → List ℕ
old_ends [] = end_block
old_ends (audio ∷ audios) = end_block ++ old_ends audios

-- what the builder writes; there are no more turns than bytes
unfoldable pub old_bytes : List ℕ → List ℕ → List (List ℕ) → List ℕ
old_bytes name video audios =
    table_block CRID (old_names name)
    ++ (table_block SFV (old_video (length video)) ++ (audio_blocks 0 audios ++ (old_turns (length video + bytes_in audios) 0 video audios ++ old_ends audios)))
