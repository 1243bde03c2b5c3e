-- What recognising a film promises. Each is proved under the same name in proofs/Promises.antt.
use Rattle.std.specs.Prelude.{ℕ, ◌+◌, ◌^◌, ◌<◌, ◌≡◌, List, [], Bool, true, false, length}
use Rattle.utf8.specs.Utf8.{is_utf8}
use Rattle.old_film.specs.Films.{old_bytes}
use Rattle.old_film.specs.Finding.{Parts, name_size, audio_size, parts_of, audios_of, is_old}

-- a film's parts are those that it was written from; its chunks start behind the blocks of its header
abbrev pub WrittenFrom : List ℕ → List ℕ → Bool → List ℕ → Parts → Type 0
WrittenFrom name video audio sound parts =
    (parts.name ≡ name) × (parts.audio ≡ audio) × (parts.start ≡ name_size (length name) + 0x80 + audio_size audio) × (parts.read.video ≡ video)
    × (parts.read.audio ≡ sound)

-- "What it writes is rebuilt and compared whole": every film that the builder writes for a name in UTF-8, a video and at most one audio is taken for one, and the parts
-- that are read in it are those that it was written from. Its first block's size is 89 more than the name's length, and a u32
abbrev pub FoundAgain : Type 0
FoundAgain =
    (name video : List ℕ) (audio : Bool) (sound : List ℕ) → is_utf8 name ≡ true → 89 + length name < 2 ^ 32 → (audio ≡ false → sound ≡ [])
    → (is_old (old_bytes name video (audios_of audio sound)) ≡ true) × WrittenFrom name video audio sound (parts_of (old_bytes name video (audios_of audio sound)))
