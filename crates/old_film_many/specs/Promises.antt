-- What telling films with several audios promises. Each is proved under the same name in proofs/Promises.antt.
use Rattle.std.specs.Prelude.{ℕ, ◌+◌, ◌^◌, ◌≤◌, ◌<◌, ◌≡◌, List, true, length}
use Rattle.utf8.specs.Utf8.{is_utf8}
use Rattle.old_film.specs.Films.{old_bytes}
use Rattle.old_film_many.specs.Audios.{is_many}

-- "20 more than one audio": every film that the builder writes for a name in UTF-8, a video and more than one audio is told as such. Its first block's size is 89 more
-- than the name's length, and a u32; so is the number of an audio
abbrev pub SeveralAreTold : Type 0
SeveralAreTold =
    (name video : List ℕ) (audios : List (List ℕ)) → is_utf8 name ≡ true → 89 + length name < 2 ^ 32 → 1 < length audios → length audios ≤ 2 ^ 32
    → is_many (old_bytes name video audios) ≡ true
