-- The promises of specs/Promises.antt, each under its name: a film is refused by its header or by a chunk, and both name only causes of a film. Assumes nothing.
use Rattle.std.specs.Prelude.{Result, Ok, Err}
use Rattle.extract.specs.declared.Contents.{Contents}
use Prim.Native.Nat.{ℕ, ◌+◌, ◌≤◌}
use mathlib.Core.Path.{◌≡◌, refl, sym, ap, ◌∙◌, subst}
use mathlib.Core.Logic.{◌⊎◌, ⊎_elim}
use mathlib.Core.Bool.{Bool, true, false, cond, ◌||◌, false≢true}
use mathlib.Core.List.{List}
use native.Mathlib.Omega.{arith}
use lib.ListN.{length}
use lib.Dec.{ltb}
use borrow.Author.Tests.{le-ltb, lt-ltb}
use Rattle.laws.proofs.Side.{side}
use Rattle.refusal.specs.declared.Cause.{Cause}
use Rattle.refusal.specs.declared.Cause.TheVariants.{RanOut, NoFilm, NoTable, NoVideo, NoAudio, NoHeaderEnd, NoMetadataEnd, UnknownType, TooSmall, TooMany, TooLong, ShortOutput, ShortList, MarkedPayload, ShortRoom, ShortHeader, UnknownStorage, Foreign, ManyAudios, NoBeginning, BadTenants, CodecAlone}
use Rattle.refusal.specs.declared.Refusal.{Refusal}
use Rattle.refusal.specs.Numbers.{number_of, beside_of}
use Rattle.reading.specs.declared.PayloadMode.TheVariants.{AfterHeader}
use Rattle.reading.specs.declared.Reading.{Reading}
use Rattle.reading.specs.Choices.{applied_to}
use Rattle.chunk.specs.Chunks.{chunk_at}
use Rattle.chunk.proofs.Promises.{RefusedByThree}
use Rattle.walk.specs.Walks.{video_size, audio_size}
use Rattle.header.specs.declared.Header.{Header}
use Rattle.header.specs.Headers.{header_of}
use Rattle.film.specs.Films.{Film, film, refused, film_of, survey_of}
use Rattle.film.proofs.Promises.{RefusedByHeaderOrChunk}
use Rattle.extract.specs.Extraction.{contents_of, refused_by, extracted_in}
use Rattle.extract.proofs.Promises.{SizesFitTheContainer}
use Rattle.list.specs.declared.ListReply.{ListReply}
use Rattle.list.specs.Listing.{counted_in, list_reply}
use Rattle.tenants.specs.Tenants.{are_bad}
use Rattle.tenants.specs.Promises.{OneToSixteen}
use Rattle.tenants.proofs.Promises.{GoodExactlyWhenDifferent}
use Rattle.statement.specs.Statements.{film_in, stated_in, stated_of}
use Rattle.statement.proofs.Promises.{RefusalsInOrder}
use Rattle.promises_refusals.specs.Promises as promised
use Rattle.promises_refusals.specs.Promises.{is_of_afilm, sizes_told}
use Rattle.promises_refusals.proofs.HeaderLaws.{FairHeader, header_fair}

pub FilmsRefuseByThese : promised.FilmsRefuseByThese
FilmsRefuseByThese container reading refusal e =
    ⊎_elim
    (λ (h : header_of container reading ≡ Err refusal). subst FairHeader h (header_fair container reading))
    (λ (c : (header : Header) × ((header_of container reading ≡ Ok header) × (chunk_at container (applied_to header.audio reading) refusal.place ≡ Err refusal))).
    let by = (RefusedByThree container (applied_to c.0.audio reading) refusal.place refusal c.1.1).1 in
    ⊎_elim (λ (q : refusal.cause ≡ RanOut). ap is_of_afilm q)
    (λ (s : (refusal.cause ≡ TooSmall) ⊎ ((refusal.cause ≡ ShortHeader) × (reading.payloads ≡ AfterHeader))).
    ⊎_elim (λ (q : refusal.cause ≡ TooSmall). ap is_of_afilm q) (λ (q : (refusal.cause ≡ ShortHeader) × (reading.payloads ≡ AfterHeader)). ap is_of_afilm q.0) s) by)
    (RefusedByHeaderOrChunk container reading refusal e)

-- ---- no size stands beside such a cause, and none is 22

no_size : (why : Cause) → is_of_afilm why ≡ true → ((beside_of why).video_size + (beside_of why).audio_size ≡ 0) × (number_of why ≡ 22 → ⊥)
no_size RanOut e = (refl, λ q. omega arith)
no_size NoFilm e = (refl, λ q. omega arith)
no_size NoTable e = (refl, λ q. omega arith)
no_size NoVideo e = (refl, λ q. omega arith)
no_size NoAudio e = (refl, λ q. omega arith)
no_size NoHeaderEnd e = (refl, λ q. omega arith)
no_size NoMetadataEnd e = (refl, λ q. omega arith)
no_size (UnknownType kind) e = (refl, λ q. omega arith)
no_size TooSmall e = (refl, λ q. omega arith)
no_size TooMany e = (refl, λ q. omega arith)
no_size TooLong e = (refl, λ q. omega arith)
no_size (ShortOutput video audio) e = absurd (false≢true e)
no_size (ShortList count) e = absurd (false≢true e)
no_size MarkedPayload e = absurd (false≢true e)
no_size (ShortRoom size) e = absurd (false≢true e)
no_size ShortHeader e = (refl, λ q. omega arith)
no_size UnknownStorage e = (refl, λ q. omega arith)
no_size Foreign e = absurd (false≢true e)
no_size ManyAudios e = absurd (false≢true e)
no_size NoBeginning e = absurd (false≢true e)
no_size BadTenants e = absurd (false≢true e)
no_size CodecAlone e = absurd (false≢true e)

-- ---- the sizes that are told

pub SizesToldFit : promised.SizesToldFit
SizesToldFit container reading key video audio video_after audio_after r e = subst (λ (x : Result Contents Refusal). sizes_told x ≤ length container) (sym e.0) (by_film (film_of container reading) refl)
  where
    told : (t : Bool) (header : Header) (seen heard : ℕ) → sizes_told (cond t (refused_by (ShortOutput seen heard)) (Ok (contents_of header seen heard))) ≡ seen + heard
    told true header seen heard = refl
    told false header seen heard = refl

    by_film : (f : Film) → film_of container reading ≡ f → sizes_told (extracted_in (length video) (length audio) (survey_of (film_of container reading))) ≤ length container
    by_film (film header applied chunks) f =
        let fit = SizesFitTheContainer container reading header applied (length chunks) (video_size chunks) (audio_size chunks) (ap survey_of f) in
        rw f (omega (arith, fit, told (ltb (length video) (video_size chunks) || ltb (length audio) (audio_size chunks)) header (video_size chunks) (audio_size chunks)))
    by_film (refused refusal) f = rw f (omega (arith, (no_size refusal.cause (FilmsRefuseByThese container reading refusal f)).0))

-- ---- 22

module _ (container : List ℕ) (tenants lines : List (List ℕ)) where
  -- what is answered for tenants that are not bad has another number
  not_counted : (room count : ℕ) → (list_reply (counted_in room count)).number ≡ 22 → ⊥
  not_counted room count e = by_room (ltb room count) refl
    where
      by_room : (b : Bool) → ltb room count ≡ b → ⊥
      by_room true l = let q : ◌≡◌ {A = ℕ} 13 22 = rw l at e in omega (arith, q)
      by_room false l = let q : ◌≡◌ {A = ℕ} 0 22 = rw l at e in omega (arith, q)

  not_walked : (f : Film) → film_in container ≡ f → (list_reply (stated_in (length lines) (length tenants) f)).number ≡ 22 → ⊥
  not_walked (film header applied chunks) f e = not_counted (length lines) (length tenants) e
  not_walked (refused refusal) f e = (no_size refusal.cause (FilmsRefuseByThese container _ refusal f)).1 e

pub TwentyTwoExactlyWhen : promised.TwentyTwoExactlyWhen
TwentyTwoExactlyWhen container tenants lines lines' r s within = (
  λ e good.
      let answer : r ≡ list_reply (stated_in (length lines) (length tenants) (film_in container)) =
      s.0 ∙ rw (le-ltb 0x40000000 (length container) within, (GoodExactlyWhenDifferent tenants).1 good) in
      not_walked container tenants lines (film_in container) refl (sym (ap (λ (reply : ListReply). reply.number) answer) ∙ e),
  λ bad. ((RefusalsInOrder container tenants lines lines' r s).bad_tenants within bad).0,
)
