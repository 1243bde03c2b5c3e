-- The checked examples: P1 to P11.
use Rattle.std.specs.Prelude.{ℕ, ◌^◌, ◌≡◌, List, [], ◌∷◌, map, take, Option, None, Result, Ok, Err}
use Rattle.cell.specs.declared.Cell.{Cell}
use Rattle.refusal.specs.declared.Cause.{Cause}
use Rattle.laws.specs.Lists.{tab, at}
use Rattle.key.specs.KeyTable.{table_t, keys_of}
use Rattle.mask.specs.Video.{unmasked_video}
use Rattle.mask.specs.Audio.{masked_audio}
use Rattle.reading.specs.declared.TableMode.TheVariants.{Original}
use Rattle.layout.specs.declared.Layout.{Layout}
use Rattle.cell.specs.Cells.{cell_at}
use Rattle.codec.specs.declared.VideoKind.TheVariants.{Ivf}
use Rattle.codec.specs.Codecs.{codec_of}
use Rattle.codec.specs.Kinds.{video_kind}
use Rattle.codec.specs.Numbers.{value_of, video_number}

-- what a definition answers, and what the rules say it is
pub record Example : Type 0 where
  pub number : ℕ
  pub answer : List ℕ
  pub expected : List ℕ

abbrev pub zeros : ℕ → List ℕ
zeros = tab (λ _. 0)

-- the bytes at some positions
abbrev pub bytes_at : List ℕ → List ℕ → List ℕ
bytes_at positions bytes = map (at bytes) positions

-- the codec of a cell that was read; a refused one has none
abbrev pub codec_read : Result Cell Cause → Option ℕ
codec_read (Ok cell) = codec_of cell
codec_read (Err cause) = None

-- a table without strings and data
abbrev pub plain : Layout
plain = record { size = 0; columns = 0; rows = 0; start = 0; strings = 0; blobs = 0; mode = Original }

-- the codec of the cell of a type that stands at the start of a body
abbrev pub codec_in : List ℕ → ℕ → Option ℕ
codec_in body type = codec_read (cell_at body type 0 plain)

-- a codec's number and the number of the video kind that follows
abbrev pub numbers_of : Option ℕ → List ℕ
numbers_of codec = value_of codec ∷ video_number (video_kind codec) ∷ []

abbrev pub p : ℕ → List ℕ → List ℕ → Example
p number answer expected = record { number = number; answer = answer; expected = expected }

unfoldable pub examples : List Example
examples =
    -- key 0: T
    p 1 (table_t 0)
    (0x00 ∷ 0x00 ∷ 0x00 ∷ 0xCC ∷ 0xF9 ∷ 0x13 ∷ 0x61 ∷ 0xFF ∷ 0x00 ∷ 0x01 ∷ 0xFF ∷ 0xFF ∷ 0x00 ∷ 0x34 ∷ 0xCB ∷ 0x00
    ∷ 0x00 ∷ 0xFF ∷ 0xFF ∷ 0xDC ∷ 0xC7 ∷ 0x00 ∷ 0x92 ∷ 0xDC ∷ 0xFF ∷ 0x45 ∷ 0x1B ∷ 0x24 ∷ 0x20 ∷ 0xC5 ∷ 0x81 ∷ 0x19 ∷ [])
    -- key 0: A begins
    ∷ p 2 (take 8 (keys_of 0).a) (0xFF ∷ 0x55 ∷ 0xFF ∷ 0x52 ∷ 0x06 ∷ 0x55 ∷ 0x9E ∷ 0x43 ∷ [])
    -- bit 36 set: T as key 0
    ∷ p 3 (table_t (2 ^ 36)) (table_t 0)
    -- bit 35 set: T4 is 01
    ∷ p 4 (bytes_at (4 ∷ []) (table_t (2 ^ 35))) (0x01 ∷ [])
    -- 0x23F zero bytes, key 0: unchanged
    ∷ p 5 (unmasked_video (keys_of 0) (zeros 0x23F)) (zeros 0x23F)
    -- 0x240 zero bytes, key 0, unmasked: 0x3F is 00, 0x40 is FF, 0x83 is CC, 0x140 is FF, 0x143 is 33, 0x160 is 00
    ∷ p 6 (bytes_at (0x3F ∷ 0x40 ∷ 0x83 ∷ 0x140 ∷ 0x143 ∷ 0x160 ∷ []) (unmasked_video (keys_of 0) (zeros 0x240)))
    (0x00 ∷ 0xFF ∷ 0xCC ∷ 0xFF ∷ 0x33 ∷ 0x00 ∷ [])
    -- audio of 0x140 bytes unchanged
    ∷ p 7 (masked_audio (keys_of 0) (zeros 0x140)) (zeros 0x140)
    -- of 0x141 zeros, key 0: last byte FF
    ∷ p 8 (bytes_at (0x140 ∷ []) (masked_audio (keys_of 0) (zeros 0x141))) (0xFF ∷ [])
    -- signed byte FF
    ∷ p 9 (value_of (codec_in (0xFF ∷ []) 1) ∷ []) (4294967295 ∷ [])
    -- signed short 8000
    ∷ p 10 (value_of (codec_in (0x80 ∷ 0x00 ∷ []) 3) ∷ []) (4294934528 ∷ [])
    -- 64-bit 1_0000_0009: the codec, and its kind
    ∷ p 11 (numbers_of (codec_in (0 ∷ 0 ∷ 0 ∷ 1 ∷ 0 ∷ 0 ∷ 0 ∷ 9 ∷ []) 6)) (9 ∷ video_number Ivf ∷ [])
    ∷ []

-- every answer is the expected one
unfoldable pub AllHold : List Example → Type 0
AllHold [] = Unit
AllHold (example ∷ rest) = (example.answer ≡ example.expected) × AllHold rest
