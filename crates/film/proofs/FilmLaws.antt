-- A film from what its header and its walk are; and back: which film a survey is of. Assumes nothing.
use Rattle.std.specs.Prelude.{Result, Ok, Err}
use Prim.Native.Nat.{ℕ}
use lib.ListN.{length}
use Rattle.walk.specs.declared.Sizes.{Sizes}
use Rattle.film.specs.declared.Surveyed.{Surveyed}
use mathlib.Core.Path.{◌≡◌, refl, sym, ap, ap₂, ◌∙◌}
use mathlib.Core.List.{List}
use native.Mathlib.Omega.{arith}
use Rattle.refusal.specs.declared.Refusal.{Refusal}
use Rattle.reading.specs.declared.Reading.{Reading}
use Rattle.reading.specs.declared.Applied.{Applied}
use Rattle.reading.specs.Choices.{applied_to}
use Rattle.chunk.specs.declared.Chunk.{Chunk}
use Rattle.walk.specs.Walks.{Walk, Ending, clean, stopped, walk_from, measured_as, measure_of, video_size, audio_size}
use Rattle.header.specs.declared.Header.{Header}
use Rattle.header.specs.Headers.{header_of}
use Rattle.film.specs.Films.{Film, film, refused, ended_as, film_from, after_header, film_of, survey_of}

-- ---- what the walk measures is what the survey says

ended_clean : (header : Header) (applied : Applied) (chunks : List Chunk) (ending : Ending) (count video audio : ℕ) → measured_as chunks ending ≡ Ok (record { count = count; video = video; audio = audio })
    → Ok (record { header = header; reading = applied; count = count; video = video; audio = audio }) ≡ survey_of (ended_as header applied chunks ending)
ended_clean header applied chunks clean count video audio e =
    let sizes : ◌≡◌ {A = Sizes} (record { count = length chunks; video = video_size chunks; audio = audio_size chunks }) (record { count = count; video = video; audio = audio }) = cc in
    sym (ap (λ (s : Sizes). Ok (record { header = header; reading = applied; count = s.count; video = s.video; audio = s.audio })) sizes)
ended_clean header applied chunks (stopped refusal) count video audio e = let z : ◌≡◌ {A = ℕ} 0 1 = cc in absurd (omega arith)

ended_stopped : (header : Header) (applied : Applied) (chunks : List Chunk) (ending : Ending) (refusal : Refusal) → measured_as chunks ending ≡ Err refusal
    → Err refusal ≡ survey_of (ended_as header applied chunks ending)
ended_stopped header applied chunks clean refusal e = let z : ◌≡◌ {A = ℕ} 0 1 = cc in absurd (omega arith)
ended_stopped header applied chunks (stopped other) refusal e = cc

-- ---- which film a survey is of

film_ended : (header h : Header) (applied k : Applied) (chunks : List Chunk) (ending : Ending) (count video audio : ℕ)
    → survey_of (ended_as h k chunks ending) ≡ Ok (record { header = header; reading = applied; count = count; video = video; audio = audio }) → (h ≡ header) × (k ≡ applied) × (ended_as h k chunks ending ≡ film h k chunks)
film_ended header h applied k chunks clean count video audio e =
    let same : ◌≡◌ {A = Surveyed} (record { header = h; reading = k; count = length chunks; video = video_size chunks; audio = audio_size chunks }) (record { header = header; reading = applied; count = count; video = video; audio = audio }) = cc in
    (ap (λ (s : Surveyed). s.header) same, ap (λ (s : Surveyed). s.reading) same, refl)
film_ended header h applied k chunks (stopped refusal) count video audio e = let z : ◌≡◌ {A = ℕ} 0 1 = cc in absurd (omega arith)

by_refusal : (refusal : Refusal) (f : Film) → survey_of f ≡ Err refusal → f ≡ refused refusal
by_refusal refusal (film header applied chunks) e = let z : ◌≡◌ {A = ℕ} 0 1 = cc in absurd (omega arith)
by_refusal refusal (refused other) e = cc

module _ (container : List ℕ) (reading : Reading) where
  abbrev applied_in : Header → Applied
  applied_in header = applied_to header.audio reading

  abbrev walked : Header → Applied → Walk
  walked header applied = walk_from container applied header.start

  pub measured : (header : Header) (count video audio : ℕ) → measure_of (walked header (applied_in header)) ≡ Ok (record { count = count; video = video; audio = audio })
      → Ok (record { header = header; reading = applied_in header; count = count; video = video; audio = audio }) ≡ survey_of (film_from container reading header)
  unfolding measure_of film_from
  measured header count video audio e =
      let w = walked header (applied_in header) in
      ended_clean header (applied_in header) w.chunks w.ending count video audio e

  pub not_measured : (header : Header) (refusal : Refusal) → measure_of (walked header (applied_in header)) ≡ Err refusal
      → Err refusal ≡ survey_of (film_from container reading header)
  unfolding measure_of film_from
  not_measured header refusal e =
      let w = walked header (applied_in header) in
      ended_stopped header (applied_in header) w.chunks w.ending refusal e

  pub with_header : (header : Header) → header_of container reading ≡ Ok header → film_from container reading header ≡ film_of container reading
  unfolding film_of
  with_header header e = rw e

  pub without_header : (refusal : Refusal) → header_of container reading ≡ Err refusal → refused refusal ≡ film_of container reading
  unfolding film_of
  without_header refusal e = rw e

  -- what a survey that accepts says of its film: the chunks are those from where its header ends, read as it says
  abbrev Accepted : Header → Applied → Film → Type 0
  Accepted header applied f = f ≡ film header applied (walked header applied).chunks

  film_from_lem : (header h : Header) (applied : Applied) (count video audio : ℕ) → survey_of (film_from container reading h) ≡ Ok (record { header = header; reading = applied; count = count; video = video; audio = audio })
      → Accepted header applied (film_from container reading h)
  unfolding film_from
  film_from_lem header h applied count video audio e =
      let w = walked h (applied_in h) in
      let all = film_ended header h applied (applied_in h) w.chunks w.ending count video audio e in
      all.2 ∙ ap₂ (λ (g : Header) (k : Applied). film g k (walked g k).chunks) all.0 all.1

  film_after : (header : Header) (applied : Applied) (count video audio : ℕ) (a : Result Header Refusal)
      → survey_of (after_header (film_from container reading) a) ≡ Ok (record { header = header; reading = applied; count = count; video = video; audio = audio }) → Accepted header applied (after_header (film_from container reading) a)
  film_after header applied count video audio (Ok h) e = film_from_lem header h applied count video audio e
  film_after header applied count video audio (Err refusal) e = let z : ◌≡◌ {A = ℕ} 0 1 = cc in absurd (omega arith)

  pub surveyed_film : (header : Header) (applied : Applied) (count video audio : ℕ) → survey_of (film_of container reading) ≡ Ok (record { header = header; reading = applied; count = count; video = video; audio = audio })
      → Accepted header applied (film_of container reading)
  unfolding film_of
  surveyed_film header applied count video audio e = film_after header applied count video audio (header_of container reading) e

  pub surveyed_refusal : (refusal : Refusal) → survey_of (film_of container reading) ≡ Err refusal → film_of container reading ≡ refused refusal
  surveyed_refusal refusal e = by_refusal refusal (film_of container reading) e
