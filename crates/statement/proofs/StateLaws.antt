-- Each answer to a statement, with the list after it, from the tests and the survey. Assumes nothing.
use Rattle.std.specs.Prelude.{Ok, Err}
use Prim.Native.Nat.{ℕ, ◌+◌, ◌≤◌, ◌<◌}
use mathlib.Core.Path.{◌≡◌, refl}
use mathlib.Core.Bool.{Bool, true, false}
use mathlib.Core.List.{List}
use native.Mathlib.Omega.{arith}
use lib.ListN.{length}
use lib.Seq.{sets}
use borrow.Author.Tests.{lt-ltb, le-ltb}
use Rattle.refusal.specs.declared.Refusal.{Refusal}
use Rattle.refusal.specs.declared.Cause.TheVariants.{TooLong, BadTenants, ShortList}
use Rattle.reading.specs.declared.Applied.{Applied}
use Rattle.reading.specs.declared.AudioChoice.TheVariants.{Chosen}
use Rattle.reading.specs.Choices.{as_original}
use Rattle.unmasking.specs.Unmasking.{is_adx}
use Rattle.walk.specs.Walks.{walk_from}
use Rattle.clip.specs.Clips.{bits_shown}
use Rattle.header.specs.declared.Header.{Header}
use Rattle.film.specs.Films.{Film, film, refused, survey_of}
use Rattle.extract.proofs.AnswerLaws.{its_film, its_sizes}
use Rattle.list.specs.declared.ListReply.{ListReply}
use Rattle.list.specs.Listing.{list_reply}
use Rattle.key_shown.specs.Shown.{shown_by}
use Rattle.tenants.specs.Tenants.{are_bad}
use Rattle.tenants.specs.Shares.{line_at, lines_from}
use Rattle.statement.specs.Statements.{film_in, refused_by, StatedBy, Stated}

-- which film a survey that refuses is of
no_film : (f : Film) (refusal : Refusal) → survey_of f ≡ Err refusal → f ≡ refused refusal
no_film (film header applied chunks) refusal e = let z : ◌≡◌ {A = ℕ} 0 1 = cc in absurd (omega arith)
no_film (refused other) refusal e = cc

module _ (container : List ℕ) (tenants lines : List (List ℕ)) (r : ListReply) where
  pub too_long : 0x40000000 < length container → r ≡ list_reply (refused_by TooLong) → Stated container tenants lines r lines
  too_long l e = let t = lt-ltb 0x40000000 (length container) l in (rw t e, rw t refl)

  module _ (l : length container ≤ 0x40000000) where
    pub bad_tenants : are_bad tenants ≡ true → r ≡ list_reply (refused_by BadTenants) → Stated container tenants lines r lines
    bad_tenants b e = let t = le-ltb 0x40000000 (length container) l in (rw (t, b) e, rw (t, b) refl)

    module _ (good : are_bad tenants ≡ false) where
      pub film_refused : (refusal : Refusal) → survey_of (film_in container) ≡ Err refusal → r ≡ list_reply (Err refusal) → Stated container tenants lines r lines
      film_refused refusal s e =
          let t = le-ltb 0x40000000 (length container) l in
          let f = no_film (film_in container) refusal s in
          (rw (t, good, f) e, rw (t, good, f) refl)

      module _ (header : Header) (applied : Applied) (count video audio : ℕ) (s : survey_of (film_in container) ≡ Ok (record { header = header; reading = applied; count = count; video = video; audio = audio })) where
        pub film_known : (adx : Bool) → adx ≡ is_adx header.audio_codec → (bits : ℕ) → bits ≡ bits_shown (shown_by adx (walk_from container applied header.start).chunks)
            → (lines' : List (List ℕ)) → StatedBy bits (video + audio) tenants lines r lines' → Stated container tenants lines r lines'
        film_known adx a bits b lines' (e, p) =
            let t = le-ltb 0x40000000 (length container) l in
            let f = its_film container (as_original Chosen) header applied count video audio s in
            let sizes = its_sizes container (as_original Chosen) header applied count video audio s in
            (rw (t, good, f) (rw good at e), rw (t, good, f, sizes.0, sizes.1, ← a, ← b) (rw good at p))

-- ---- where the film is known

module _ (bits size : ℕ) (tenants lines : List (List ℕ)) (r : ListReply) where
  pub bad_by : are_bad tenants ≡ true → r ≡ list_reply (refused_by BadTenants) → StatedBy bits size tenants lines r lines
  bad_by b e = (rw b e, rw b refl)

  module _ (good : are_bad tenants ≡ false) where
    pub short_by : length lines < length tenants → r ≡ list_reply (refused_by (ShortList (length tenants))) → StatedBy bits size tenants lines r lines
    short_by k e = let u = lt-ltb (length lines) (length tenants) k in (rw (good, u) e, rw (good, u) refl)

    pub all_by : length tenants ≤ length lines → (lines' : List (List ℕ)) → lines' ≡ sets lines 0 (lines_from (line_at bits size tenants) 0 (length tenants))
        → r ≡ list_reply (Ok (length tenants)) → StatedBy bits size tenants lines r lines'
    all_by k lines' p e = let u = le-ltb (length lines) (length tenants) k in (rw (good, u) e, rw (good, u) p)
