-- Rule W9: what a writing answers, and what it leaves in the output. "Refusals: 23 .., 11 .., then 15 .., then 16 output too short; outputs untouched."
use Rattle.std.specs.Prelude.{ℕ, ◌≡◌, List, Bool, length, Result, Ok}
use Rattle.refusal.specs.declared.Refusal.{Refusal}
use Rattle.signature.specs.Signatures.{contents_end}
use Rattle.lent.specs.Written.{written_in, left_by}
use Rattle.write_blocks.specs.Blocks.{head_of}
use Rattle.write_blocks.specs.Tables.{marker_of}
use Rattle.write_plan.specs.declared.Packing.{Packing}
use Rattle.write_plan.specs.declared.Stream.{Stream}
use Rattle.write_plan.specs.Films.{audio_in, letters_of, bytes_of, in_each, header_blocks, film_bytes}
use Rattle.write_plan.specs.Sizes.{header_size, size_in}
use Rattle.write_plan.specs.Planning.{sized_of, headed_by, planned_of}

-- the answer where so many bytes are planned, or none, which then is 16 where they do not fit, and the output after it
abbrev pub WritingAs : Result ℕ Refusal → List ℕ → List ℕ → Result ℕ Refusal → List ℕ → Type 0
WritingAs planned bytes out r out' = (r ≡ written_in (length out) planned) × (out' ≡ left_by r out bytes)

-- the answer to a writing, 23, 11 and 15 as planned and then 16; `audio` is what there is of it
abbrev pub WritingOf : List ℕ → List ℕ → List ℕ → Packing → List ℕ → Result ℕ Refusal → List ℕ → Type 0
WritingOf name video audio packing = WritingAs (planned_of name video audio packing) (film_bytes name video audio packing)

-- where there is no audio, the slice that is given for it is not looked at
abbrev pub Writing : List ℕ → List ℕ → List ℕ → Packing → List ℕ → Result ℕ Refusal → List ℕ → Type 0
Writing name video audio packing out r out' = WritingOf name video (audio_in packing audio) packing out r out'

-- ---- the pieces of a film that hold no payload, each by itself

-- the header of a film whose streams have these lengths: 23 and 11 as planned, then 16
abbrev pub HeaderWriting : List ℕ → ℕ → ℕ → Packing → List ℕ → Result ℕ Refusal → List ℕ → Type 0
HeaderWriting name video audio packing =
    WritingAs (headed_by (header_size (length name) packing) (sized_of (length name) video (size_in packing audio) packing)) (bytes_of (header_blocks name packing))

-- the head of a chunk whose payload has n bytes
abbrev pub HeadWriting : Stream → ℕ → List ℕ → Result ℕ Refusal → List ℕ → Type 0
HeadWriting stream n = WritingAs (Ok 0x20) (head_of (letters_of stream) n)

-- the ends of the streams, with audio or without
abbrev pub ends_of : Bool → List ℕ
ends_of audio = bytes_of (in_each audio (λ stream. marker_of contents_end))

abbrev pub EndsWriting : Bool → List ℕ → Result ℕ Refusal → List ℕ → Type 0
EndsWriting audio = WritingAs (Ok (length (ends_of audio))) (ends_of audio)
