-- Rule D5b on a film that is read piece by piece: the first byte of a stream that differs, found chunk by chunk.
use Rattle.std.specs.Prelude.{ℕ, ◌+◌, min, cond, List, [], ◌∷◌, ltb, Option, Some, None, Result, Ok, Err}
use Rattle.refusal.specs.declared.Refusal.{Refusal}
use Rattle.chunk.specs.declared.Chunk.{Chunk}
use Rattle.film_apart.specs.declared.Stream.{Stream}
use Rattle.film_apart.specs.declared.Parting.{Parting}
use Rattle.film_apart.specs.FilmsApart.{part_in, apart_of}
use Rattle.pieces_apart.specs.declared.Passed.{Passed}

-- sizes that are added: the largest number of 64 bits stands for all that are larger
abbrev pub added : ℕ → ℕ → ℕ
added a b = min (a + b) 0xFFFFFFFFFFFFFFFF

abbrev pub unparted : Passed
unparted = record { bytes = 0; parting = Ok None }

-- a parting, or another where there is none
abbrev pub or_else : Result (Option Parting) Refusal → Result (Option Parting) Refusal → Result (Option Parting) Refusal
or_else (Ok None) other = other
or_else (Ok (Some parting)) other = Ok (Some parting)
or_else (Err refusal) other = Err refusal

-- where a chunk's share first differs, after so many bytes
abbrev pub parted_in : Stream → Option ℕ → ℕ → ℕ → ℕ → Chunk → Option Parting
parted_in stream codec key key' bytes chunk =
    cond (ltb (apart_of stream codec key key' chunk) (part_in stream chunk.kind chunk.len))
    (Some (record { stream = stream; byte = added bytes (apart_of stream codec key key' chunk); chunk = chunk.start; offset = apart_of stream codec key key' chunk }))
    None

-- the first place at which they parted stays
abbrev pub past : Stream → Option ℕ → ℕ → ℕ → Passed → Chunk → Passed
past stream codec key key' passed chunk = record {
  bytes = added passed.bytes (part_in stream chunk.kind chunk.len);
  parting = or_else passed.parting (Ok (parted_in stream codec key key' passed.bytes chunk));
}

-- all of these chunks were passed
unfoldable pub past_all : Stream → Option ℕ → ℕ → ℕ → Passed → List Chunk → Passed
past_all stream codec key key' passed [] = passed
past_all stream codec key key' passed (chunk ∷ chunks) = past_all stream codec key key' (past stream codec key key' passed chunk) chunks

-- of the video, or else of the audio
abbrev pub parting_of : Passed → Passed → Result (Option Parting) Refusal
parting_of video audio = or_else video.parting audio.parting
