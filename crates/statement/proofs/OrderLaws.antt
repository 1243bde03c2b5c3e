-- What extraction with room for everything says of a container is what a statement goes by, so its refusals can be told in their order. Assumes nothing.
use Rattle.std.specs.Prelude.{Option, Ok, Err}
use Prim.Native.Nat.{ℕ, ◌≤◌}
use mathlib.Core.Path.{◌≡◌, refl, ap, ◌∙◌}
use mathlib.Core.Bool.{Bool, true, false, cond, ◌||◌}
use mathlib.Core.List.{List}
use native.Mathlib.Omega.{arith}
use lib.ListN.{length}
use lib.Dec.{ltb}
use borrow.Author.Tests.{lt-ltb, le-ltb}
use Rattle.refusal.specs.declared.Refusal.{Refusal}
use Rattle.refusal.specs.declared.Cause.TheVariants.{TooLong, BadTenants}
use Rattle.reading.specs.declared.AudioChoice.TheVariants.{Chosen}
use Rattle.reading.specs.Choices.{as_original}
use Rattle.unmasking.specs.Unmasking.{unmasking_of}
use Rattle.walk.specs.Walks.{walk_from, video_size, audio_size}
use Rattle.film.specs.Films.{Film, film, refused, survey_of}
use Rattle.extract.specs.declared.Contents.{Contents}
use Rattle.extract.specs.Extraction.{contents_of}
use Rattle.extract.proofs.AnswerLaws.{sizes_within, extracted_film}
use Rattle.extract.proofs.Promises.{OutputsMayBeSizedByTheFile}
use Rattle.list.specs.declared.ListReply.{ListReply}
use Rattle.list.specs.Listing.{counted_in}
use Rattle.tenants.specs.Tenants.{are_bad}
use Rattle.tenants.specs.Promises.{OneToSixteen}
use Rattle.tenants.proofs.Promises.{GoodExactlyWhenDifferent}
use Rattle.statement.specs.Statements.{film_in, refused_by, stated_in, Stated}
use Rattle.statement.specs.Promises.{Answered, Unpacked, Walked, InOrder}
use Rattle.statement.proofs.GivenLaws.{passed}

-- ---- a film, or not

-- nothing is counted where the walk refuses
never_counted : (long bad : Bool) (refusal : Refusal) (n : ℕ) → cond long (refused_by TooLong) (cond bad (refused_by BadTenants) (Err refusal)) ≡ Ok n → ⊥
never_counted true bad refusal n e = let z : ◌≡◌ {A = ℕ} 0 1 = cc in omega arith
never_counted false true refusal n e = let z : ◌≡◌ {A = ℕ} 0 1 = cc in omega arith
never_counted false false refusal n e = let z : ◌≡◌ {A = ℕ} 0 1 = cc in omega arith

-- a film is unpacked where there is room
abbrev Unpacks : List ℕ → Option ℕ → List ℕ → List ℕ → Type 0
Unpacks container key video audio = (contents : Contents) × (video_after : List ℕ) × (audio_after : List ℕ) × Unpacked container key video audio contents video_after audio_after

pub every_key : (container : List ℕ) (tenants lines lines' : List (List ℕ)) (r : ListReply) (key : Option ℕ) (video audio : List ℕ) → Answered container tenants lines r lines'
    → length container ≤ length video → length container ≤ length audio → Unpacks container key video audio
every_key container tenants lines lines' r key video audio a v w = by_film (film_in container) refl
  where
    by_film : (f : Film) → film_in container ≡ f → Unpacks container key video audio
    by_film (film header applied chunks) f =
        let how = as_original Chosen in
        let by = unmasking_of key header.audio_codec in
        let all = (walk_from container applied header.start).chunks in
        let fit = sizes_within container how header applied (length chunks) (video_size chunks) (audio_size chunks) (ap survey_of f) in
        let room : (ltb (length video) (video_size chunks) || ltb (length audio) (audio_size chunks)) ≡ false =
        rw (le-ltb (length video) (video_size chunks) (omega arith), le-ltb (length audio) (audio_size chunks) (omega arith)) in (
          contents_of header (video_size chunks) (audio_size chunks),
          _,
          _,
          extracted_film container how key video audio header applied (length chunks) (video_size chunks) (audio_size chunks) (ap survey_of f) room by refl
              (contents_of header (video_size chunks) (audio_size chunks)) refl _ _ refl refl,
        )
    by_film (refused refusal) f =
        absurd (never_counted (ltb 0x40000000 (length container)) (are_bad tenants) refusal (length tenants) (rw f at (passed container tenants lines lines' r a).1))

-- what extraction answers is what the walk says
walked_refused : (container : List ℕ) (refusal : Refusal) → Walked container (Err refusal) → film_in container ≡ refused refusal
walked_refused container refusal w = by_film (film_in container) refl
  where
    by_film : (f : Film) → film_in container ≡ f → film_in container ≡ refused refusal
    by_film (film header applied chunks) f =
        let q : Err refusal ≡ Ok (contents_of header (video_size chunks) (audio_size chunks)) =
        OutputsMayBeSizedByTheFile container (as_original Chosen) w.key w.video w.audio w.video_after w.audio_after (Err refusal) header applied
        (length chunks) (video_size chunks) (audio_size chunks) w.video_room w.audio_room w.answers (ap survey_of f) in
        let z : ◌≡◌ {A = ℕ} 0 1 = cc in
        absurd (omega arith)
    by_film (refused other) f =
        let q : Err refusal ≡ Err other = rw f at w.answers.0 in
        let same : other ≡ refusal = cc in
        f ∙ ap refused same

-- the answer on a film
walked_film : (container : List ℕ) (contents : Contents) → Walked container (Ok contents) → (room count : ℕ) → stated_in room count (film_in container) ≡ counted_in room count
walked_film container contents w room count = by_film (film_in container) refl
  where
    by_film : (f : Film) → film_in container ≡ f → stated_in room count (film_in container) ≡ counted_in room count
    by_film (film header applied chunks) f = rw f
    by_film (refused refusal) f =
        let q : Ok contents ≡ Err refusal = rw f at w.answers.0 in
        let z : ◌≡◌ {A = ℕ} 0 1 = cc in
        absurd (omega arith)

-- ---- the order

are_bad_lem : (tenants : List (List ℕ)) → (OneToSixteen tenants → ⊥) → are_bad tenants ≡ true
are_bad_lem tenants h = by_test (are_bad tenants) refl
  where
    by_test : (b : Bool) → are_bad tenants ≡ b → are_bad tenants ≡ true
    by_test true e = e
    by_test false e = absurd (h ((GoodExactlyWhenDifferent tenants).0 e))

are_good : (tenants : List (List ℕ)) → OneToSixteen tenants → are_bad tenants ≡ false
are_good tenants good = (GoodExactlyWhenDifferent tenants).1 good

pub in_order : (container : List ℕ) (tenants lines lines' : List (List ℕ)) (r : ListReply) → Stated container tenants lines r lines' → InOrder container tenants lines r
in_order container tenants lines lines' r s = record {
  too_long = λ l. rw (s.0, lt-ltb 0x40000000 (length container) l) (refl, refl);
  bad_tenants = λ l h. rw (s.0, le-ltb 0x40000000 (length container) l, are_bad_lem tenants h) (refl, refl);
  walks_own = λ l good refusal w. rw (s.0, le-ltb 0x40000000 (length container) l, are_good tenants good, walked_refused container refusal w) (refl, refl);
  short_list = λ l good contents w few.
      rw (s.0, le-ltb 0x40000000 (length container) l, are_good tenants good, walked_film container contents w (length lines) (length tenants), lt-ltb (length lines) (length tenants) few)
      ((refl, refl), refl);
  answered = λ l good contents w room.
      rw (s.0, le-ltb 0x40000000 (length container) l, are_good tenants good, walked_film container contents w (length lines) (length tenants), le-ltb (length lines) (length tenants) room)
      ((refl, refl), refl);
}
