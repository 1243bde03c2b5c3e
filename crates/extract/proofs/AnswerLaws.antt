-- Each answer of an extraction, with both outputs after it, from the survey and the tests; and back: what a film's answer says. Assumes nothing.
use Rattle.std.specs.Prelude.{Option, Result, Ok, Err}
use Prim.Native.Nat.{ℕ, ◌+◌, ◌≤◌}
use mathlib.Core.Path.{◌≡◌, refl, sym, ap, ◌∙◌}
use mathlib.Core.List.{List}
use mathlib.Core.Bool.{Bool, true, false, cond, ◌||◌}
use native.Mathlib.Omega.{arith}
use lib.ListN.{length}
use lib.Seq.{sets}
use lib.Dec.{ltb}
use borrow.Author.Tests.{ltb-false}
use Rattle.refusal.specs.declared.Refusal.{Refusal}
use Rattle.refusal.specs.declared.Cause.TheVariants.{ShortOutput}
use Rattle.reading.specs.declared.Reading.{Reading}
use Rattle.reading.specs.declared.Applied.{Applied}
use Rattle.chunk.specs.declared.Chunk.{Chunk}
use Rattle.walk.specs.Walks.{walk_from, video_size, audio_size}
use Rattle.unmasking.specs.declared.Unmasking.{Unmasking}
use Rattle.unmasking.specs.Unmasking.{unmasking_of}
use Rattle.header.specs.declared.Header.{Header}
use Rattle.film.specs.declared.Surveyed.{Surveyed}
use Rattle.film.specs.Films.{film, film_of, survey_of}
use Rattle.film.proofs.FilmLaws.{surveyed_film}
use Rattle.walk.proofs.Promises.{SizesFitWhatIsLeft}
use Rattle.extract.specs.declared.Contents.{Contents}
use Rattle.extract.specs.Streams.{video_stream, audio_stream}
use Rattle.extract.specs.Extraction.{contents_of, refused_by, Extraction}

-- neither of two outputs is short
pub both_long : (a b c d : ℕ) → (ltb a b || ltb c d) ≡ false → (b ≤ a) × (d ≤ c)
both_long a b c d e = by_test (ltb a b) (ltb c d) refl refl e
  where
    by_test : (s t : Bool) → ltb a b ≡ s → ltb c d ≡ t → (s || t) ≡ false → (b ≤ a) × (d ≤ c)
    by_test true t p q r = let z : ◌≡◌ {A = ℕ} 0 1 = cc in absurd (omega arith)
    by_test false true p q r = let z : ◌≡◌ {A = ℕ} 0 1 = cc in absurd (omega arith)
    by_test false false p q r = (ltb-false a b p, ltb-false c d q)

-- the answer is a film only where the test does not refuse
pub passed : (t : Bool) (refusal : Refusal) (held contents : Contents) → Ok contents ≡ cond t (Err refusal) (Ok held)
    → (t ≡ false) × (held ≡ contents)
passed true refusal held contents e = let z : ◌≡◌ {A = ℕ} 0 1 = cc in absurd (omega arith)
passed false refusal held contents e = (refl, cc)

-- the sizes of a film that was surveyed are those of the chunks from where its header says, read as the survey says
module _ (container : List ℕ) (reading : Reading) (header : Header) (applied : Applied) (count seen heard : ℕ)
    (e : survey_of (film_of container reading) ≡ Ok (record { header = header; reading = applied; count = count; video = seen; audio = heard })) where
  abbrev chunks : List Chunk
  chunks = (walk_from container applied header.start).chunks

  pub its_film : film_of container reading ≡ film header applied chunks
  its_film = surveyed_film container reading header applied count seen heard e

  pub its_sizes : (video_size chunks ≡ seen) × (audio_size chunks ≡ heard)
  its_sizes =
      let f : survey_of (film header applied chunks) ≡ Ok (record { header = header; reading = applied; count = count; video = seen; audio = heard }) = sym (ap survey_of its_film) ∙ e in
      let same : ◌≡◌ {A = Surveyed} (record { header = header; reading = applied; count = length chunks; video = video_size chunks; audio = audio_size chunks }) (record { header = header; reading = applied; count = count; video = seen; audio = heard }) = cc in
      (ap (λ (s : Surveyed). s.video) same, ap (λ (s : Surveyed). s.audio) same)

  -- a payload lies behind the first 8 bytes of its chunk and the next chunk past it, so both streams together fit the container
  pub sizes_within : seen + heard ≤ length container
  sizes_within = omega (arith, its_sizes.0, its_sizes.1, SizesFitWhatIsLeft container applied header.start)

  -- where neither output is short, both streams have room
  pub both_fit : (video_room audio_room : ℕ) → (ltb video_room seen || ltb audio_room heard) ≡ false → (video_size chunks ≤ video_room) × (audio_size chunks ≤ audio_room)
  both_fit video_room audio_room room =
      let l = both_long video_room seen audio_room heard room in
      (omega (arith, its_sizes.0, l.0), omega (arith, its_sizes.1, l.1))

module _ (container : List ℕ) (reading : Reading) (key : Option ℕ) (video audio : List ℕ) where
  pub not_surveyed : (refusal : Refusal) → survey_of (film_of container reading) ≡ Err refusal
      → Extraction container reading key video audio (Err refusal) video audio
  not_surveyed refusal e = (rw e, refl, refl, tt)

  module _ (header : Header) (applied : Applied) (count seen heard : ℕ) (e : survey_of (film_of container reading) ≡ Ok (record { header = header; reading = applied; count = count; video = seen; audio = heard })) where
    pub short_output : (ltb (length video) seen || ltb (length audio) heard) ≡ true → (r : Result Contents Refusal) → r ≡ refused_by (ShortOutput seen heard)
        → Extraction container reading key video audio r video audio
    short_output t r q = rw q (rw (e, t), refl, refl, tt)

    pub extracted_film : (ltb (length video) seen || ltb (length audio) heard) ≡ false
        → (unmasking : Unmasking) → unmasking ≡ unmasking_of key header.audio_codec → (contents : Contents) → contents ≡ contents_of header seen heard
        → (video' audio' : List ℕ) → video' ≡ sets video 0 (video_stream container unmasking (walk_from container applied header.start).chunks)
        → audio' ≡ sets audio 0 (audio_stream container unmasking (walk_from container applied header.start).chunks)
        → Extraction container reading key video audio (Ok contents) video' audio'
    extracted_film room unmasking u contents q video' audio' v a =
        let f = its_film container reading header applied count seen heard e in
        (rw (e, room, q), rw (f, v, u), rw (f, a, u), rw q (sizes_within container reading header applied count seen heard e))
