-- Rules C: what stands at a place c of a container, and the payload.
use Rattle.std.specs.Prelude.{ℕ, ◌+◌, ◌-◌, List, [], Bool, true, false, cond, length, ltb, Option, Some, None, Result, Ok, Err}
use Rattle.refusal.specs.declared.Refusal.{Refusal}
use Rattle.std.specs.Borrow.{Bor}
use Rattle.refusal.specs.declared.Cause.{Cause}
use Rattle.refusal.specs.declared.Cause.TheVariants.{RanOut, TooSmall, ShortHeader}
use Rattle.reading.specs.declared.PayloadMode.{PayloadMode}
use Rattle.reading.specs.declared.PayloadMode.TheVariants.{Original, AfterHeader}
use Rattle.reading.specs.declared.Applied.{Applied}
use Rattle.reading.specs.Choices.{takes_channel}
use Rattle.part.specs.Parts.{part_at, IsPart, PartAt}
use Rattle.chunk.specs.declared.Kind.{Kind}
use Rattle.chunk.specs.declared.Kind.TheVariants.{Video, Audio, Other, End}
use Rattle.chunk.specs.declared.Opening.{Opening}
use Rattle.chunk.specs.declared.Chunk.{Chunk}
use Rattle.chunk.specs.Openings.{opening_at}

-- "kind (`video`, `audio`, `other`, `end`)", numbered in that order
abbrev pub kind_number : Kind → ℕ
kind_number Video = 0
kind_number Audio = 1
kind_number Other = 2
kind_number End = 3

-- "`@SFV` payloads go to video, `@SFA` to audio if present and chosen; others are skipped". "Audio of another channel is skipped like audio not chosen"
abbrev pub is_taken : Applied → Kind → ℕ → Bool
is_taken reading Video channel = true
is_taken reading Audio channel = takes_channel reading.audio channel
is_taken reading Other channel = false
is_taken reading End channel = false

-- "The payload starts at c + 0x20 whatever the header size says"; in the second mode, "payload from c + 8 + header size"
abbrev pub offset_of : PayloadMode → Opening → ℕ
offset_of Original opening = 0x20
offset_of AfterHeader opening = 8 + opening.header

-- "17 header size below 0x18 in the new mode"
abbrev pub is_short : PayloadMode → Opening → Bool
is_short Original opening = false
is_short AfterHeader opening = ltb opening.header 0x18

-- "next at c + 8 + block size". The payload has n bytes, so many after the start
unfoldable pub chunk_of : ℕ → Opening → ℕ → ℕ → Chunk
chunk_of c opening offset n = record { start = c; kind = opening.kind; channel = opening.channel; data_type = opening.data_type; next = c + 8 + opening.block; payload = c + offset; len = n }

-- "the start of the block being read"
abbrev pub refused_at : ℕ → Cause → Result (Option Chunk) Refusal
refused_at c why = Err (record { cause = why; place = c })

-- Of a container the rules ask no more than its opening at c, and its length: total

-- "its length is block size - header - footer (9), present in full (1)."
unfoldable pub held_at : ℕ → ℕ → Opening → ℕ → Result (Option Chunk) Refusal
held_at total c opening offset =
    cond (ltb opening.block (opening.header + opening.footer)) (refused_at c TooSmall)
    (cond (ltb total (c + offset + (opening.block - (opening.header + opening.footer)))) (refused_at c RanOut)
    (Ok (Some (chunk_of c opening offset (opening.block - (opening.header + opening.footer))))))

-- "17 header size below 0x18 in the new mode for a payload that is not skipped, placed before 9"
unfoldable pub taken_at : ℕ → PayloadMode → ℕ → Opening → Result (Option Chunk) Refusal
taken_at total mode c opening = cond (is_short mode opening) (refused_at c ShortHeader) (held_at total c opening (offset_of mode opening))

-- "others are skipped with no size check"; "payload length (0 if skipped)". A skipped payload is said to start at c + 0x20 in both modes: nothing asks its header size
unfoldable pub opened_at : ℕ → Applied → ℕ → Opening → Result (Option Chunk) Refusal
opened_at total reading c opening = cond (is_taken reading opening.kind opening.channel) (taken_at total reading.payloads c opening) (Ok (Some (chunk_of c opening 0x20 0)))

-- where fewer bytes than an opening are left
abbrev pub ended_at : ℕ → ℕ → Result (Option Chunk) Refusal
ended_at left c = cond (ltb left 4) (Ok None) (refused_at c RanOut)

-- "At c, fewer than 4 bytes left: clean end. .. 4 to 44 left: 1."
abbrev pub step_of : ℕ → Applied → ℕ → Opening → Result (Option Chunk) Refusal
step_of total reading c opening =
    cond (ltb (total - c) 4) (Ok None)
    (cond (ltb (total - c) 45) (refused_at c RanOut)
    (opened_at total reading c opening))

unfoldable pub chunk_at : List ℕ → Applied → ℕ → Result (Option Chunk) Refusal
chunk_at container reading c = step_of (length container) reading c (opening_at container c)

-- a payload's bytes
abbrev pub payload_of : List ℕ → Chunk → List ℕ
payload_of container chunk = part_at container chunk.payload chunk.len

-- r is the payload: "Reading one hands back the payload as a part of the container, empty if skipped."
abbrev pub PayloadOf : Bor (List ℕ) → Chunk → Bor (List ℕ) → Type 0
PayloadOf container chunk r = PartAt container chunk.payload chunk.len r

-- refused, or past the last chunk, there is none: r is the empty part at byte 0
abbrev pub PayloadIn : Bor (List ℕ) → Result (Option Chunk) Refusal → Bor (List ℕ) → Type 0
PayloadIn container (Ok None) r = IsPart container 0 [] r
PayloadIn container (Ok (Some chunk)) r = PayloadOf container chunk r
PayloadIn container (Err refusal) r = IsPart container 0 [] r

abbrev pub PayloadAt : Bor (List ℕ) → Applied → ℕ → Bor (List ℕ) → Type 0
PayloadAt container reading c r = PayloadIn container (chunk_at container.now reading c) r
