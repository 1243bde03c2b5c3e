-- Rule O10: recognising is rebuilding here too. A container is one that the move writes exactly when request 1's writer gives it anew, without a key, from its own parts.
use Rattle.std.specs.Prelude.{ℕ, List, [], Bool, false, cond, ◌&&◌, length, drop, Option, Some, None, Result, Ok, Err}
use Rattle.refusal.specs.declared.Refusal.{Refusal}
use Rattle.part.specs.Parts.{part_at}
use Rattle.reading.specs.declared.AudioChoice.TheVariants.{Chosen}
use Rattle.reading.specs.Choices.{as_original}
use Rattle.signature.specs.Signatures.{same_bytes}
use Rattle.film_name.specs.declared.Name.{Name}
use Rattle.header.specs.declared.Header.{Header}
use Rattle.header.specs.Headers.{header_of}
use Rattle.utf8.specs.Utf8.{is_utf8}
use Rattle.write_plan.specs.declared.Packing.{Packing}
use Rattle.write_plan.specs.Films.{bytes_of, header_blocks, film_bytes}
use Rattle.turns.specs.declared.Form.TheVariants.{New}
use Rattle.turns.specs.Turns.{Read, read_in, turns_by}
use Rattle.moved_film.specs.declared.NewFilm.{NewFilm}

-- a film's parts: its name, how it is packed, where its chunks start, and what they hold
pub record Parts : Type 0 where
  pub name : List ℕ
  pub packing : Packing
  pub start : ℕ
  pub read : Read

-- what the header walk answers, rules H
abbrev pub answer_in : List ℕ → Result Header Refusal
answer_in container = header_of container (as_original Chosen)

-- the header that it gives; a container that it refuses is none of the move's, whatever stands here
abbrev pub header_by : Result Header Refusal → Header
header_by (Ok head) = head
header_by (Err refusal) = record { name = None; mpeg_codec = None; audio = false; audio_codec = None; start = 0 }

-- the bytes of the name
abbrev pub name_by : List ℕ → Option Name → List ℕ
name_by container (Some part) = part_at container part.start part.len
name_by container None = []

-- "payloads travel as stored", so there is no key
abbrev pub packing_by : Header → Packing
packing_by head = record { audio = head.audio; mpeg_codec = head.mpeg_codec; audio_codec = head.audio_codec; key = None }

-- chunks start behind the header
abbrev pub parts_at : List ℕ → List ℕ → Packing → ℕ → Parts
parts_at container name packing start = record { name = name; packing = packing; start = start; read = read_in New packing.audio (drop start container) }

abbrev pub parts_from : List ℕ → List ℕ → Packing → Parts
parts_from container name packing = parts_at container name packing (length (bytes_of (header_blocks name packing)))

abbrev pub parts_by : List ℕ → Header → Parts
parts_by container head = parts_from container (name_by container head.name) (packing_by head)

unfoldable pub parts_of : List ℕ → Parts
parts_of container = parts_by container (header_by (answer_in container))

-- the film that request 1 writes from parts
abbrev pub rebuilt : Parts → List ℕ
rebuilt parts = film_bytes parts.name parts.read.video parts.read.audio parts.packing

-- "any byte that differs"; the builder's names are UTF-8
abbrev pub is_rebuilt : List ℕ → Parts → Bool
is_rebuilt container parts = is_utf8 parts.name && same_bytes container (rebuilt parts)

abbrev pub is_new_by : List ℕ → Result Header Refusal → Bool
is_new_by container (Ok head) = is_rebuilt container (parts_by container head)
is_new_by container (Err refusal) = false

unfoldable pub is_new : List ℕ → Bool
is_new container = is_new_by container (answer_in container)

-- as the code gives it
abbrev pub film_by : Parts → NewFilm
film_by parts = record { name = length parts.name; packing = parts.packing; start = parts.start; turns = turns_by parts.read }

-- what a container is, by its parts. It serves the contract of `found_as`
abbrev pub found_as : List ℕ → Parts → Option NewFilm
found_as container parts = cond (is_rebuilt container parts) (Some (film_by parts)) None

unfoldable pub found_in : List ℕ → Option NewFilm
found_in container = cond (is_new container) (Some (film_by (parts_of container))) None
