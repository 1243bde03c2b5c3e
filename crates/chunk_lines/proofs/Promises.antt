-- The promises of specs/Promises.antt, each under its name: the lines of a container of at most 16,384 bytes are short, and so is a refusal. Assumes nothing.
use Rattle.std.specs.Prelude.{Result, Ok, Err}
use Rattle.refusal.specs.declared.Refusal.{Refusal}
use mathlib.Core.Path.{◌≡◌, refl}
use mathlib.Core.List.{List}
use mathlib.Core.Bool.{Bool, true, false, cond}
use Prim.Native.Nat.{ℕ, ◌≤◌}
use native.Mathlib.Omega.{arith}
use lib.ListN.{length}
use lib.Dec.{ltb}
use borrow.Author.Tests.{ltb-false}
use Rattle.refusal.specs.declared.Cause.TheVariants.{TooLong}
use Rattle.reading.specs.declared.AudioChoice.TheVariants.{Chosen}
use Rattle.reading.specs.declared.Reading.{Reading}
use Rattle.reading.specs.declared.Applied.{Applied}
use Rattle.reading.specs.Choices.{as_original, applied_to}
use Rattle.chunk.specs.declared.Chunk.{Chunk}
use Rattle.chunk.specs.Openings.{Bytes}
use Rattle.walk.specs.Walks.{Ending, clean, stopped, walk_from}
use Rattle.header.specs.declared.Header.{Header}
use Rattle.header.specs.Headers.{header_of}
use Rattle.film.specs.Films.{ended_as, film_from, after_header, film_of}
use Rattle.chunk_lines.specs.Lines.{lines_of, refusal_line, film_text, text_of}
use Rattle.chunk_lines.specs.Promises as promised
use Rattle.chunk_lines.proofs.LineLaws.{refusal_short, lines_short}

ended : (header : Header) (applied : Applied) (chunks : List Chunk) (ending : Ending) → length (lines_of chunks) ≤ 65536 → length (film_text (ended_as header applied chunks ending)) ≤ 65536
ended header applied chunks clean h = h
ended header applied chunks (stopped refusal) h = omega (arith, refusal_short refusal)

module _ (container : List ℕ) (reading : Reading) (bytes : Bytes container) (limit : length container ≤ 16384) where
  from_header : (header : Header) → length (film_text (film_from container reading header)) ≤ 65536
  unfolding film_from
  from_header header =
      let applied = applied_to header.audio reading in
      let walked = walk_from container applied header.start in
      ended header applied walked.chunks walked.ending (omega (arith, lines_short container applied bytes limit header.start))

  after : (a : Result Header Refusal) → length (film_text (after_header (film_from container reading) a)) ≤ 65536
  after (Ok header) = from_header header
  after (Err refusal) = omega (arith, refusal_short refusal)

  of_film : length (film_text (film_of container reading)) ≤ 65536
  unfolding film_of
  of_film = after (header_of container reading)

by_length : (container : List ℕ) → Bytes container → (t : Bool) → ltb 16384 (length container) ≡ t
    → length (cond t (refusal_line (record { cause = TooLong; place = 0 })) (film_text (film_of container (as_original Chosen)))) ≤ 65536
by_length container bytes true e = omega (arith, refusal_short (record { cause = TooLong; place = 0 }))
by_length container bytes false e = of_film container (as_original Chosen) bytes (ltb-false 16384 (length container) e)

pub TextFits : promised.TextFits
unfolding text_of
TextFits container bytes = by_length container bytes (ltb 16384 (length container)) refl
