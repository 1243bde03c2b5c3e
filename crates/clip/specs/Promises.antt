-- What can be relied on about a clip and two keys. Each is proved under the same name in proofs/Promises.antt.
use Rattle.std.specs.Prelude.{ℕ, ◌≡◌, false, ◌↔◌, List, length}
use Rattle.mask.specs.Promises.{audio}
use Rattle.key.specs.LaneBits.{AgreeIn}
use Rattle.clip.specs.Clips.{clip_tells, bits_shown}

-- A clip is told to be no help exactly when it is the same under both keys, whatever its bytes.
abbrev pub NotToldApartExactlyWhenEqual : Type 0
NotToldApartExactlyWhenEqual =
    (key key' : ℕ) (clip : List ℕ) → (clip_tells (length clip) key key' ≡ false) ↔ (audio key clip ≡ audio key' clip)

-- A clip of n bytes does not tell two keys apart exactly when they agree in the bits that it shows.
abbrev pub NotToldApartExactlyWhenBitsAgree : Type 0
NotToldApartExactlyWhenBitsAgree = (n key key' : ℕ) → (clip_tells n key key' ≡ false) ↔ AgreeIn (bits_shown n) key key'
