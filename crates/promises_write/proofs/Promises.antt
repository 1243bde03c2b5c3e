-- The promises of specs/Promises.antt, each under its name. Assumes nothing.
use Rattle.std.specs.Prelude.{Option, Some, Result, Ok}
use Rattle.extract.specs.declared.Contents.{Contents}
use Rattle.refusal.specs.declared.Refusal.{Refusal}
use Prim.Native.Nat.{ℕ, ◌+◌, ◌≤◌}
use mathlib.Core.Path.{◌≡◌, refl, sym, ap, ap₂, ◌∙◌, subst}
use mathlib.Core.List.{List, []}
use mathlib.Core.Bool.{Bool, true, false, not, cond, ◌||◌, ◌&&◌}
use native.Mathlib.Omega.{arith}
use lib.ListN.{length, take, drop}
use lib.Seq.{sets-eq, length-sets, take_at, drop_at}
use lib.Dec.{ltb}
use borrow.Author.Tests.{le-ltb}
use Rattle.reading.specs.declared.Reading.{Reading}
use Rattle.reading.specs.Choices.{takes_channel, applied_to}
use Rattle.refusal.specs.declared.Cause.TheVariants.{TooLong, MarkedPayload, CodecAlone}
use Rattle.chunk.specs.declared.Chunk.{Chunk}
use Rattle.header.specs.declared.Header.{Header}
use Rattle.walk.specs.Walks.{video_size, audio_size}
use Rattle.film.specs.Films.{Film, film, film_of, survey_of}
use Rattle.extract.specs.Extraction.{extracted_in, extracted_of, video_of, audio_of, left_by, SizesWithin, Extraction}
use Rattle.extract.proofs.Promises.{SizesAreTheStreams, OneFilmWhereBitsAgree}
use Rattle.lent.specs.Written.{written_in}
use Rattle.lent.proofs.RoomLaws.{planned_so}
use Rattle.write_plan.specs.declared.Packing.{Packing}
use Rattle.write_plan.specs.Films.{bytes_of, header_blocks, audio_in, film_bytes}
use Rattle.write_plan.specs.Payloads.{payloads_of}
use Rattle.write_plan.specs.Sizes.{film_size}
use Rattle.write_plan.specs.Planning.{refused_by, is_given, any_marked, planned_of}
use Rattle.write_plan.proofs.LengthLaws.{film_length}
use Rattle.write_plan.proofs.PlanLaws.{Accepted, accepted}
use Rattle.write.specs.Writing.{Writing}
use Rattle.promises_write.specs.Promises as promised
use Rattle.promises_write.specs.Promises.{CodecFits, header_back, contents_back, GivesBack, with_key}
use Rattle.promises_write.specs.Listing.{lines_of, chunks_from}
use Rattle.promises_write.proofs.StoredLaws.{film_stored, plan_stored, audio_stored}
use Rattle.promises_write.proofs.FilmBackLaws.{film_is, video_is, audio_is, name_is}

-- ---- what is known of a film that was written

module _ (name video audio : List ℕ) (packing : Packing) (out out' : List ℕ) (size : ℕ) (mpeg : CodecFits packing.mpeg_codec) (other : CodecFits packing.audio_codec)
    (w : Writing name video audio packing out (Ok size) out') (reading : Reading) (chosen : takes_channel reading.audio 0 ≡ true) where
  abbrev heard_of : List ℕ
  heard_of = audio_in packing audio

  abbrev container : List ℕ
  container = film_bytes name video heard_of packing

  so : (planned_of name video heard_of packing ≡ Ok size) × (size ≤ length out)
  so = planned_so (length out) (planned_of name video heard_of packing) size (sym w.0)

  pub taken : Accepted name video heard_of packing size
  taken = accepted name video heard_of packing size so.0

  pub silent : packing.audio ≡ false → heard_of ≡ []
  silent e = ap (λ (t : Bool). cond t audio []) e

  -- the written bytes are the film
  pub written_is : take size out' ≡ container
  written_is =
      let room : 0 + length container ≤ length out = omega (arith, so.1, taken.sized) in
      ap (take size) (w.1 ∙ sets-eq container out 0 room) ∙ take_at container (drop (0 + length container) out) size (sym taken.sized)

  abbrev first : ℕ
  first = length (bytes_of (header_blocks name packing))

  abbrev header : Header
  header = header_back name packing first

  abbrev found : List Chunk
  found = chunks_from first (lines_of video heard_of packing.audio)

  pub film_read : film_of container reading ≡ film header (applied_to packing.audio reading) found
  film_read = film_is name video heard_of packing size taken mpeg other silent reading chosen

  seen_is : video_of container packing.key (film_of container reading) ≡ video
  seen_is = ap (video_of container packing.key) film_read ∙ video_is name video heard_of packing size taken mpeg other silent reading chosen

  heard_is : audio_of container packing.key (film_of container reading) ≡ heard_of
  heard_is = ap (audio_of container packing.key) film_read ∙ audio_is name video heard_of packing size taken mpeg other silent reading chosen

  -- ---- what extraction answers

  sizes : survey_of (film_of container reading) ≡ Ok (record { header = header; reading = applied_to packing.audio reading; count = length found; video = length video; audio = length heard_of })
  sizes =
      let s = ap survey_of film_read in
      let l = SizesAreTheStreams container (reading) packing.key header (applied_to packing.audio reading) (length found) (video_size found) (audio_size found) s in
      s ∙ ap₂ (λ (v a : ℕ). Ok (record { header = header; reading = applied_to packing.audio reading; count = length found; video = v; audio = a })) (sym l.0 ∙ ap length seen_is) (sym l.1 ∙ ap length heard_is)

  pub gives_back : (seen heard seen' heard' : List ℕ) (r : Result Contents Refusal) → length video ≤ length seen → length heard_of ≤ length heard
      → Extraction container reading packing.key seen heard r seen' heard' → GivesBack name video heard_of packing container seen heard r seen' heard'
  gives_back seen heard seen' heard' r v a x =
      let e : r ≡ Ok (contents_back name video heard_of packing) =
      x.0 ∙ ap (extracted_in (length seen) (length heard)) sizes
      ∙ rw (le-ltb (length seen) (length video) v, le-ltb (length heard) (length heard_of) a) in (
        e,
        name_is name video heard_of packing size taken mpeg other silent reading chosen,
        x.1 ∙ ap₂ (λ (r : Result Contents Refusal) (l : List ℕ). left_by r seen l) e seen_is,
        x.2 ∙ ap₂ (λ (r : Result Contents Refusal) (l : List ℕ). left_by r heard l) e heard_is,
      )

-- ---- the promises

pub ReadingBack : promised.ReadingBack
ReadingBack name video audio packing out out' size reading seen heard seen' heard' r mpeg other w chosen v a x =
    let e = written_is name video audio packing out out' size mpeg other w reading chosen in
    rw e (gives_back name video audio packing out out' size mpeg other w reading chosen seen heard seen' heard' r v a (rw e at x))

pub ReadingBackWhereBitsAgree : promised.ReadingBackWhereBitsAgree
ReadingBackWhereBitsAgree name video audio packing out out' size key key' reading seen heard seen' heard' r mpeg other w chosen v a k agree x =
    let c = take size out' in
    let s = extracted_of c reading seen heard in
    let video₀ = left_by s seen (video_of c (Some key) (film_of c reading)) in
    let audio₀ = left_by s heard (audio_of c (Some key) (film_of c reading)) in
    let within : SizesWithin c s = subst (SizesWithin c) x.0 x.3 in
    let same = OneFilmWhereBitsAgree c reading key key' seen heard s r video₀ audio₀ seen' heard' agree (refl, refl, refl, within) x in
    let back = ReadingBack name video audio packing out out' size reading seen heard video₀ audio₀ s mpeg other w chosen v a (rw k (refl, refl, refl, within)) in
    (sym same.0 ∙ back.0, back.1, sym same.1 ∙ back.2, sym same.2 ∙ back.3)

pub ListingBack : promised.ListingBack
ListingBack name video audio packing out out' size reading mpeg other w chosen =
    ap (λ (l : List ℕ). film_of l reading) (written_is name video audio packing out out' size mpeg other w reading chosen)
    ∙ film_read name video audio packing out out' size mpeg other w reading chosen

-- ---- the output, and the key

pub RefusalsLeaveTheOutput : promised.RefusalsLeaveTheOutput
RefusalsLeaveTheOutput name video audio packing out out' refusal w = w.1

pub BytesPastTheFilmStay : promised.BytesPastTheFilmStay
BytesPastTheFilmStay name video audio packing out out' size w =
    let heard = audio_in packing audio in
    let film = film_bytes name video heard packing in
    let so = planned_so (length out) (planned_of name video heard packing) size (sym w.0) in
    let sized = (accepted name video heard packing size so.0).sized in
    let room : 0 + length film ≤ length out = omega (arith, so.1, sized) in
    let n : 0 + length film ≡ size = omega (arith, sized) in
    (ap length w.1 ∙ length-sets out 0 film, ap (drop size) (w.1 ∙ sets-eq film out 0 room) ∙ drop_at film (drop (0 + length film) out) size (sym sized) ∙ ap (λ (k : ℕ). drop k out) n)

same_plan : (name video audio : List ℕ) (packing : Packing) (key : Option ℕ) → planned_of name video audio packing ≡ planned_of name video audio (with_key key packing)
unfolding planned_of film_size
same_plan name video audio packing key =
    ap (λ (n : ℕ).
    cond (not packing.audio && is_given packing.audio_codec) (refused_by CodecAlone)
    (cond (ltb 0x40000000 n) (refused_by TooLong) (cond (any_marked (payloads_of video) || any_marked (payloads_of audio)) (refused_by MarkedPayload) (Ok n))))
    (film_length name video audio packing ∙ sym (film_length name video audio (with_key key packing)))

pub NoKeyChangesTheAnswer : promised.NoKeyChangesTheAnswer
NoKeyChangesTheAnswer name video audio packing key out out' room room' r r' l w w' =
    w.0 ∙ ap₂ written_in l (same_plan name video (audio_in packing audio) packing key) ∙ sym w'.0

-- ---- as it is stored

pub KeyedIsStored : promised.KeyedIsStored
KeyedIsStored name video audio packing out out' r =
    let heard = audio_in packing audio in
    let spoken = audio_stored packing audio in
    let plan = plan_stored name video heard packing in
    let bytes = film_stored name video heard packing in
    (λ w. rw (spoken, ← plan, ← bytes) w, λ w. rw (plan, bytes, ← spoken) w)
