-- Ours, beyond the rules: a film of `total` bytes, of which a beginning, a window at a place, or a payload is at hand.
use Rattle.std.specs.Prelude.{ℕ, ◌≡◌, List, [], ◌∷◌, Bool, not, cond, ◌&&◌, length, take, drop, ltb, eqb, Option, Some, None, Result, Ok, Err}
use Rattle.header.specs.declared.Header.{Header}
use Rattle.refusal.specs.declared.Refusal.{Refusal}
use Rattle.refusal.specs.declared.Cause.TheVariants.{TooLong}
use Rattle.refusal.specs.Numbers.{number_of}
use Rattle.reading.specs.declared.TableMode.{TableMode}
use Rattle.reading.specs.declared.Reading.{Reading}
use Rattle.reading.specs.declared.Applied.{Applied}
use Rattle.header.specs.Headers.{header_of}
use Rattle.laws_prefix.specs.Needs.{laid_at}
use Rattle.chunk.specs.declared.Chunk.{Chunk}
use Rattle.chunk.specs.Windows.{step_in}
use Rattle.walk.specs.Walks.{Ending, clean, stopped, joined}
use Rattle.unmasking.specs.Unmasking.{cleared_by}
use Rattle.chunk_mask.specs.ChunkMasks.{mask_of}
use Rattle.extract.specs.Streams.{video_part, audio_part}

-- "container 1,073,741,824 bytes"; "11 comes first"; its place is 0
abbrev pub too_long : Refusal
too_long = record { cause = TooLong; place = 0 }

-- a refusal that is open, of a beginning that is not all of the film, is no answer yet. Each other answer stands
abbrev pub is_open : List ℕ → TableMode → Refusal → Bool
is_open beginning m refusal = eqb (number_of refusal.cause) 1 && not (laid_at beginning m refusal.place)

abbrev pub settled_as : List ℕ → ℕ → TableMode → Result Header Refusal → Option (Result Header Refusal)
settled_as beginning total m (Ok header) = Some (Ok header)
settled_as beginning total m (Err refusal) = cond (ltb (length beginning) total && is_open beginning m refusal) None (Some (Err refusal))

unfoldable pub header_in : List ℕ → ℕ → Reading → Option (Result Header Refusal)
header_in beginning total how = cond (ltb 0x40000000 total) (Some (Err too_long)) (settled_as beginning total how.tables (header_of beginning how))

unfoldable pub film_step : List ℕ → ℕ → Applied → ℕ → Option (Result (Option Chunk) Refusal)
film_step window total reading c = cond (ltb 0x40000000 total) (Some (Err too_long)) (step_in window total reading c)

-- ---- a reader, who has a window for each place at which it asks

-- what it has learnt, from place c on: these chunks, and how they end
abbrev pub Learnt : (ℕ → List ℕ) → ℕ → Applied → ℕ → List Chunk → Ending → Type 0
Learnt window total reading c [] clean = film_step (window c) total reading c ≡ Some (Ok None)
Learnt window total reading c [] (stopped refusal) = film_step (window c) total reading c ≡ Some (Err refusal)
Learnt window total reading c (chunk ∷ chunks) ending = (film_step (window c) total reading c ≡ Some (Ok (Some chunk))) × Learnt window total reading chunk.next chunks ending

-- its windows are the container's bytes at their places, as many as it likes
abbrev pub Windows : List ℕ → (ℕ → List ℕ) → (ℕ → ℕ) → Type 0
Windows container window size = (c : ℕ) → window c ≡ take (size c) (drop c container)

-- it reads a payload's bytes where the chunk says
abbrev pub Payloads : List ℕ → (Chunk → List ℕ) → Type 0
Payloads container payload = (chunk : Chunk) → payload chunk ≡ take chunk.len (drop chunk.payload container)

-- a chunk's payload under a key, made clear by the mask that it has; without a key it is as stored
abbrev pub clear_of : Option ℕ → Option ℕ → Chunk → List ℕ → List ℕ
clear_of None codec chunk payload = payload
clear_of (Some number) codec chunk payload = cleared_by number (mask_of codec chunk.kind chunk.data_type) payload

-- both streams, put together of payloads, each made clear by itself
abbrev pub video_by : (Chunk → List ℕ) → Option ℕ → Option ℕ → List Chunk → List ℕ
video_by payload key codec = joined (λ chunk. video_part chunk.kind (clear_of key codec chunk (payload chunk)))

abbrev pub audio_by : (Chunk → List ℕ) → Option ℕ → Option ℕ → List Chunk → List ℕ
audio_by payload key codec = joined (λ chunk. audio_part chunk.kind (clear_of key codec chunk (payload chunk)))
