-- What is printed, by what is known of a container: it is too long, or its film is surveyed. Assumes nothing.
use Rattle.std.specs.Prelude.{Ok, Err}
use mathlib.Core.Path.{◌≡◌, sym, ap, ◌∙◌}
use mathlib.Core.List.{List}
use Prim.Native.Nat.{ℕ, ◌≤◌, ◌<◌}
use lib.ListN.{length}
use borrow.Author.Tests.{lt-ltb, le-ltb}
use Rattle.refusal.specs.declared.Cause.TheVariants.{TooLong}
use Rattle.refusal.specs.declared.Refusal.{Refusal}
use Rattle.reading.specs.declared.AudioChoice.TheVariants.{Chosen}
use Rattle.reading.specs.Choices.{as_original}
use Rattle.reading.specs.declared.Reading.{Reading}
use Rattle.reading.specs.declared.Applied.{Applied}
use Rattle.walk.specs.Walks.{walk_from}
use Rattle.header.specs.declared.Header.{Header}
use Rattle.film.specs.Films.{film_of, survey_of}
use Rattle.film.proofs.FilmLaws.{surveyed_film, surveyed_refusal}
use Rattle.chunk_lines.specs.Lines.{lines_of, refusal_line, film_text, text_of}

module _ (container : List ℕ) where
  abbrev chosen : Reading
  chosen = as_original Chosen

  pub too_long : 16384 < length container → refusal_line (record { cause = TooLong; place = 0 }) ≡ text_of container
  unfolding text_of
  too_long h = rw (lt-ltb 16384 (length container) h)

  not_too_long : length container ≤ 16384 → text_of container ≡ film_text (film_of container chosen)
  unfolding text_of
  not_too_long h = rw (le-ltb 16384 (length container) h)

  pub accepted : length container ≤ 16384 → (header : Header) (applied : Applied) (count video audio : ℕ)
      → survey_of (film_of container chosen) ≡ Ok (record { header = header; reading = applied; count = count; video = video; audio = audio }) → lines_of (walk_from container applied header.start).chunks ≡ text_of container
  accepted h header applied count video audio e = sym (not_too_long h ∙ ap film_text (surveyed_film container chosen header applied count video audio e))

  pub not_accepted : length container ≤ 16384 → (refusal : Refusal) → survey_of (film_of container chosen) ≡ Err refusal → refusal_line refusal ≡ text_of container
  not_accepted h refusal e = sym (not_too_long h ∙ ap film_text (surveyed_refusal container chosen refusal e))
