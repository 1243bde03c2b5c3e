-- What a film promises of one channel of its audio, of none of it, and of both payload modes. Each is proved under the same name in proofs/Promises.antt.
use Rattle.std.specs.Prelude.{ℕ, ◌≡◌, ◌⊎◌, List, map, Ok, Err}
use Rattle.refusal.specs.declared.Refusal.{Refusal}
use Rattle.reading.specs.declared.AudioChoice.{AudioChoice}
use Rattle.reading.specs.declared.AudioChoice.TheVariants.{NotChosen, Chosen, Channel}
use Rattle.reading.specs.declared.PayloadMode.{PayloadMode}
use Rattle.reading.specs.declared.Reading.{Reading}
use Rattle.reading.specs.declared.Applied.{Applied}
use Rattle.reading.specs.Choices.{applied_to}
use Rattle.chunk.specs.declared.Chunk.{Chunk}
use Rattle.chunk.specs.Chunks.{chunk_at}
use Rattle.chunk.specs.Channels.{only, silenced}
use Rattle.walk.specs.Promises.{Plain}
use Rattle.header.specs.declared.Header.{Header}
use Rattle.header.specs.Headers.{header_of}
use Rattle.film.specs.Films.{film, refused, film_of}

-- a reading, but for its audio choice
abbrev pub with_audio : AudioChoice → Reading → Reading
with_audio choice reading = record { audio = choice; payloads = reading.payloads; tables = reading.tables }

-- Request 2, "audio choice becomes none, all joined .., or one channel": a film that is accepted with all audio is accepted with each channel of it, with the
-- same header and the same chunks, of which those of another channel are "skipped like audio not chosen"
abbrev pub OneChannelOfAFilm : Type 0
OneChannelOfAFilm =
    (container : List ℕ) (reading : Reading) (channel : ℕ) (header : Header) (applied : Applied) (chunks : List Chunk)
    → film_of container (with_audio Chosen reading) ≡ film header applied chunks
    → film_of container (with_audio (Channel channel) reading) ≡ film header (applied_to header.audio (with_audio (Channel channel) reading)) (map (only channel) chunks)

-- and "none": a film that is accepted with some choice of audio is accepted with none, with the same header and the same chunks, whose audio is skipped
abbrev pub NoAudioOfAFilm : Type 0
NoAudioOfAFilm =
    (container : List ℕ) (reading : Reading) (choice : AudioChoice) (header : Header) (applied : Applied) (chunks : List Chunk)
    → film_of container (with_audio choice reading) ≡ film header applied chunks
    → film_of container (with_audio NotChosen reading) ≡ film header (applied_to header.audio (with_audio NotChosen reading)) (map silenced chunks)

-- a reading, but for its payload mode
abbrev pub with_payloads : PayloadMode → Reading → Reading
with_payloads mode reading = record { audio = reading.audio; payloads = mode; tables = reading.tables }

-- Request 4: at header size 0x18 both payload modes agree. A film that is accepted in one, and whose taken payloads all stand behind headers of 0x18, is the same
-- film in the other
abbrev pub ModesAgreeOnAFilm : Type 0
ModesAgreeOnAFilm =
    (container : List ℕ) (reading : Reading) (mode : PayloadMode) (header : Header) (applied : Applied) (chunks : List Chunk)
    → film_of container reading ≡ film header applied chunks → Plain container applied chunks
    → film_of container (with_payloads mode reading) ≡ film header (applied_to header.audio (with_payloads mode reading)) chunks

-- A film that is refused is refused by its header, or where that is read by the chunk at the refusal's place.
abbrev pub RefusedByHeaderOrChunk : Type 0
RefusedByHeaderOrChunk =
    (container : List ℕ) (reading : Reading) (refusal : Refusal) → film_of container reading ≡ refused refusal
    → (header_of container reading ≡ Err refusal)
    ⊎ ((header : Header) × ((header_of container reading ≡ Ok header) × (chunk_at container (applied_to header.audio reading) refusal.place ≡ Err refusal)))
