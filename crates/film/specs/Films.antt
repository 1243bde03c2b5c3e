-- Rules R: a container as a whole. "11 comes first; then the walk's first refusal in reading order".
use Rattle.std.specs.Prelude.{List, ℕ, length, Result, Ok, Err}
use Rattle.film.specs.declared.Surveyed.{Surveyed}
use Rattle.refusal.specs.declared.Refusal.{Refusal}
use Rattle.reading.specs.declared.Reading.{Reading}
use Rattle.reading.specs.declared.Applied.{Applied}
use Rattle.reading.specs.Choices.{applied_to}
use Rattle.chunk.specs.declared.Chunk.{Chunk}
use Rattle.walk.specs.Walks.{Walk, Ending, clean, stopped, walk_from, video_size, audio_size}
use Rattle.header.specs.declared.Header.{Header}
use Rattle.header.specs.Headers.{header_of}

-- a film that is read: its header, how it is read, and its chunks. Or the refusal
pub data Film : Type 0 where
  film : Header → Applied → List Chunk → Film
  refused : Refusal → Film

abbrev pub ended_as : Header → Applied → List Chunk → Ending → Film
ended_as header applied chunks clean = film header applied chunks
ended_as header applied chunks (stopped refusal) = refused refusal

abbrev pub walked_as : Header → Applied → Walk → Film
walked_as header applied w = ended_as header applied w.chunks w.ending

-- the chunks from where the header says that they begin
abbrev pub film_by : List ℕ → Header → Applied → Film
film_by container header applied = walked_as header applied (walk_from container applied header.start)

-- audio is taken "if present and chosen"
unfoldable pub film_from : List ℕ → Reading → Header → Film
film_from container reading header = film_by container header (applied_to header.audio reading)

abbrev pub after_header : (Header → Film) → Result Header Refusal → Film
after_header k (Ok header) = k header
after_header k (Err refusal) = refused refusal

unfoldable pub film_of : List ℕ → Reading → Film
film_of container reading = after_header (film_from container reading) (header_of container reading)

-- count and sizes are sums over the chunks
abbrev pub survey_of : Film → Result Surveyed Refusal
survey_of (film header applied chunks) = Ok (record { header = header; reading = applied; count = length chunks; video = video_size chunks; audio = audio_size chunks })
survey_of (refused refusal) = Err refusal
