-- What the mission's demand 3 and request 7 promise of payloads, one statement each. Each is proved under the same name in proofs/Promises.antt.
use Rattle.std.specs.Prelude.{ℕ, ◌%◌, ◌≤◌, ◌<◌, ◌≡◌, ◌↔◌, cond, List, length}
use Rattle.std.specs.Int.Bits.{bit_xor}
use Rattle.laws.specs.Lists.{at}
use Rattle.key.specs.KeyTable.{keys_of}
use Rattle.key.specs.CountingBits.{AgreeWhereItCounts, DifferOnlyInBits40To47, SameEvenLanes}
use Rattle.mask.specs.Video.{unmasked_video, masked_video}
use Rattle.mask.specs.Audio.{masked_audio}
use Rattle.mask.specs.Positions.{difference, video_differs, audio_differs, lanes_shown}

-- a payload under a key: video unmasked and masked, audio either
abbrev pub video : ℕ → List ℕ → List ℕ
video key = unmasked_video (keys_of key)

abbrev pub video_masked : ℕ → List ℕ → List ℕ
video_masked key = masked_video (keys_of key)

abbrev pub audio : ℕ → List ℕ → List ℕ
audio key = masked_audio (keys_of key)

-- how far two answers are apart at a position
abbrev pub apart : List ℕ → List ℕ → ℕ → ℕ
apart answer answer' p = bit_xor (at answer p) (at answer' p)

-- "below 0x240 bytes both answers are the payload"
abbrev pub ShortVideoStays : Type 0
ShortVideoStays = (key : ℕ) (payload : List ℕ) → length payload < 0x240 → video key payload ≡ payload

-- "from there they differ by the XOR of the two key tables at the positions document 01 lists and nowhere else"
abbrev pub VideoDiffersByD : Type 0
VideoDiffersByD =
    (key key' : ℕ) (payload : List ℕ) → 0x240 ≤ length payload → (p : ℕ) → p < length payload
    → apart (video key payload) (video key' payload) p ≡ cond (video_differs p) (difference key key' (p % 0x20)) 0

-- "so they are equal exactly when the keys agree in bits 0 to 35 and 40 to 55"
abbrev pub VideoEqualExactlyWhenBitsAgree : Type 0
VideoEqualExactlyWhenBitsAgree =
    (key key' : ℕ) (payload : List ℕ) → 0x240 ≤ length payload → (video key payload ≡ video key' payload) ↔ AgreeWhereItCounts key key'

-- "Audio obeys the same law at its own positions"
abbrev pub AudioDiffersByD : Type 0
AudioDiffersByD =
    (key key' : ℕ) (payload : List ℕ) (p : ℕ) → p < length payload
    → apart (audio key payload) (audio key' payload) p ≡ cond (audio_differs p) (difference key key' (p % 0x20)) 0

-- P7, of every payload and key: audio of 0x140 bytes or fewer stays
abbrev pub ShortAudioStays : Type 0
ShortAudioStays = (key : ℕ) (payload : List ℕ) → length payload ≤ 0x140 → audio key payload ≡ payload

-- audio of n bytes is equal under two keys exactly when their T agree in every even lane below min(0x20, n - 0x140)
abbrev pub AudioEqualExactlyWhenLanesAgree : Type 0
AudioEqualExactlyWhenLanesAgree =
    (key key' : ℕ) (payload : List ℕ)
    → (audio key payload ≡ audio key' payload) ↔ SameEvenLanes (lanes_shown (length payload)) key key'

-- request 7: "the "exactly when" holds from 0x159 bytes on"
abbrev pub ClipEqualExactlyWhenBitsAgree : Type 0
ClipEqualExactlyWhenBitsAgree =
    (key key' : ℕ) (payload : List ℕ) → 0x159 ≤ length payload → (audio key payload ≡ audio key' payload) ↔ AgreeWhereItCounts key key'

-- request 7: "for any payload of 0x158 bytes or fewer, two keys that differ only in bits 40 to 47 give the same answer"
abbrev pub ShorterClipHidesBits40To47 : Type 0
ShorterClipHidesBits40To47 =
    (key key' : ℕ) (payload : List ℕ) → length payload ≤ 0x158 → DifferOnlyInBits40To47 key key' → audio key payload ≡ audio key' payload

-- "the "exactly when" from 0x160 bytes"
abbrev pub AudioEqualExactlyWhenBitsAgree : Type 0
AudioEqualExactlyWhenBitsAgree =
    (key key' : ℕ) (payload : List ℕ) → 0x160 ≤ length payload → (audio key payload ≡ audio key' payload) ↔ AgreeWhereItCounts key key'

-- keys that agree where it counts give one answer for every payload, however short
abbrev pub OneAnswerWhereBitsAgree : Type 0
OneAnswerWhereBitsAgree =
    (key key' : ℕ) → AgreeWhereItCounts key key' → (payload : List ℕ)
    → (video key payload ≡ video key' payload) × (video_masked key payload ≡ video_masked key' payload) × (audio key payload ≡ audio key' payload)

-- "Masking and unmasking under one key undo each other on every payload."
abbrev pub VideoUndone : Type 0
VideoUndone =
    (key : ℕ) (payload : List ℕ) → (video key (video_masked key payload) ≡ payload) × (video_masked key (video key payload) ≡ payload)

abbrev pub AudioUndone : Type 0
AudioUndone = (key : ℕ) (payload : List ℕ) → audio key (audio key payload) ≡ payload
