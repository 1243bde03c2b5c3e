-- How long a film is, by the lengths of what it is made of. It serves the contracts of what measures; the rules do not name it, and speak of the film's own length.
use Rattle.std.specs.Prelude.{ℕ, ◌+◌, ◌-◌, ◌*◌, ◌/◌, ◌%◌, Bool, cond, eqb, Option, Some, None}
use Rattle.word.specs.Bytes.{padding}
use Rattle.write_plan.specs.declared.Packing.{Packing}

-- a block that holds n bytes
abbrev pub block_size : ℕ → ℕ
block_size n = 0x20 + n + padding n

-- a block with a codec's table: 52 or 53 bytes, or the 32 of a table without a column
abbrev pub codec_size : Option ℕ → ℕ
codec_size (Some n) = 0x60
codec_size None = 0x40

-- the blocks beside the name's that hold no payload: the codecs', and four for each stream
abbrev pub frame_size : Packing → ℕ
frame_size packing = cond packing.audio (codec_size packing.mpeg_codec + codec_size packing.audio_codec + 8 * 0x40) (codec_size packing.mpeg_codec + 4 * 0x40)

-- of them, those that end the streams
abbrev pub ends_size : Bool → ℕ
ends_size audio = cond audio 0x80 0x40

-- the header: its name's table has 54 bytes beside the name
unfoldable pub header_size : ℕ → Packing → ℕ
header_size name packing = block_size (54 + name) + (frame_size packing - ends_size packing.audio)

-- the last payload, if it is shorter
abbrev pub last_size : ℕ → ℕ
last_size n = cond (eqb n 0) 0 (block_size n)

-- the chunks of a stream of n bytes: whole payloads need no padding
unfoldable pub stream_size : ℕ → ℕ
stream_size n = n / 0x10000 * 0x10020 + last_size (n % 0x10000)

-- a film
unfoldable pub film_size : ℕ → ℕ → ℕ → Packing → ℕ
film_size name video audio packing = block_size (54 + name) + frame_size packing + (stream_size video + stream_size audio)

-- the size of the audio that there is
abbrev pub size_in : Packing → ℕ → ℕ
size_in packing audio = cond packing.audio audio 0
