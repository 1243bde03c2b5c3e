-- Each answer about the bits that a film shows, from its survey. Assumes nothing.
use Rattle.std.specs.Prelude.{Ok, Err}
use Prim.Native.Nat.{ℕ}
use mathlib.Core.Path.{◌≡◌}
use mathlib.Core.Bool.{Bool}
use mathlib.Core.List.{List}
use Rattle.refusal.specs.declared.Refusal.{Refusal}
use Rattle.reading.specs.declared.Reading.{Reading}
use Rattle.reading.specs.declared.Applied.{Applied}
use Rattle.clip.specs.Clips.{bits_shown}
use Rattle.walk.specs.Walks.{walk_from}
use Rattle.unmasking.specs.Unmasking.{is_adx}
use Rattle.header.specs.declared.Header.{Header}
use Rattle.film.specs.Films.{survey_of, film_of}
use Rattle.film.proofs.FilmLaws.{surveyed_film, surveyed_refusal}
use Rattle.key_shown.specs.Shown.{shown_by}
use Rattle.key_shown.specs.KeyBits.{key_bits_in}

module _ (container : List ℕ) (reading : Reading) where
  pub bits_refused : (refusal : Refusal) → survey_of (film_of container reading) ≡ Err refusal → Err refusal ≡ key_bits_in (film_of container reading)
  bits_refused refusal s = rw (surveyed_refusal container reading refusal s)

  pub bits_told : (header : Header) (applied : Applied) (count video audio : ℕ) → survey_of (film_of container reading) ≡ Ok (record { header = header; reading = applied; count = count; video = video; audio = audio })
      → (adx : Bool) → adx ≡ is_adx header.audio_codec
      → (bits : ℕ) → bits ≡ bits_shown (shown_by adx (walk_from container applied header.start).chunks) → Ok bits ≡ key_bits_in (film_of container reading)
  bits_told header applied count video audio s adx a bits e = rw (surveyed_film container reading header applied count video audio s, e, a)
