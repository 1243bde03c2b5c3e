-- The promises of specs/Promises.antt, each under its name: a reply is the answer of the function below, of which each is promised. Assumes nothing.
use Rattle.std.specs.Prelude.{Option, Some, Result, Ok, Err}
use Rattle.salvage.specs.declared.Kept.{Kept}
use Rattle.refusal.specs.declared.Refusal.{Refusal}
use mathlib.Core.Path.{◌≡◌, refl, sym, ap, ◌∙◌, subst}
use mathlib.Core.List.{List}
use mathlib.Core.Logic.{◌↔◌, ◌⊎◌}
use mathlib.Core.Bool.{true}
use Prim.Native.Nat.{ℕ, ◌+◌, ◌≤◌}
use native.Mathlib.Omega.{arith}
use lib.ListN.{length, take}
use Rattle.reading.specs.declared.Reading.{Reading}
use Rattle.key.specs.LaneBits.{AgreeIn}
use Rattle.film.specs.Films.{Film, film, refused, film_of}
use Rattle.extract.specs.declared.Contents.{Contents}
use Rattle.extract.specs.Extraction.{extracted_of, Extraction}
use Rattle.replies.specs.declared.FilmReply.{FilmReply}
use Rattle.replies.specs.FilmReplies.{film_reply}
use Rattle.list.proofs.ReplyLaws.{numbered}
use Rattle.lent.specs.declared.SizeReply.{SizeReply}
use Rattle.lent.specs.Written.{written_in, size_reply}
use Rattle.reading.specs.declared.TableMode.{TableMode}
use Rattle.table.specs.Tables.{table_at}
use Rattle.csv_text.specs.Written.{csv_of}
use Rattle.table_csv.specs.Writing.{texts_at, to_write}
use Rattle.write_plan.specs.declared.Packing.{Packing}
use Rattle.write_plan.specs.declared.Stream.TheVariants.{Video, Audio}
use Rattle.promises_write.specs.Promises.{GivesBack, stored_in}
use Rattle.promises_refusals.specs.Promises.{sizes_told}
use Rattle.promises_refusals.proofs.Promises.{SizesToldFit}
use Rattle.salvage.specs.declared.SalvageReply.{SalvageReply}
use Rattle.salvage.specs.Salvage.{accepted, salvage_of, salvage_reply}
use Rattle.salvage.proofs.Promises as salvaged
use Rattle.old_film.specs.Films.{old_bytes}
use Rattle.usm.specs.Exports.{FilmReplied}
use Rattle.write_plan.specs.Films.{audio_in, film_bytes}
use Rattle.write_plan.specs.Planning.{planned_of}
use Rattle.old_film.specs.Finding as old
use Rattle.moved_film.specs.Finding as new
use Rattle.film_move.specs.FromOld.{packing_of, new_bytes, from_old, FromOld}
use Rattle.film_move.specs.ToOld.{old_of, to_old}
use Rattle.promises_write.proofs.Promises as written
use Rattle.promises_profile.proofs.Promises as profiled
use Rattle.profile.specs.declared.ProfileReply.{ProfileReply}
use Rattle.profile.specs.Profiles.{profile_reply}
use Rattle.table_csv.proofs.Promises as csv
use Rattle.key_shown.specs.declared.KeyBitsReply.{KeyBitsReply}
use Rattle.key_shown.specs.KeyBits.{shown_bits, key_bits_in, key_bits_reply}
use Rattle.key_shown.proofs.Promises as shown
use Rattle.promises_move.proofs.Promises as moved
use Rattle.usm.specs.declared.moving.CodecBytes.{CodecBytes}
use Rattle.usm.specs.Writes.{WrittenAs}
use Rattle.usm.specs.Moves.{video_codec, audio_codec}
use Rattle.promises_c.specs.Promises as promised
use Rattle.promises_c.proofs.AnswerLaws.{writing, leaves}

-- ---- what is answered, and what is written, where it is

module _ (name video audio : List ℕ) (packing : Packing) (out : List ℕ) where
  abbrev write_answer : Result ℕ Refusal
  write_answer = written_in (length out) (planned_of name video (audio_in packing audio) packing)

  abbrev film_written : List ℕ
  film_written = film_bytes name video (audio_in packing audio) packing

module _ (bytes : List ℕ) (place : ℕ) (m : TableMode) where
  abbrev csv_written : List ℕ
  csv_written = csv_of (texts_at bytes place m)

  abbrev csv_answer : List ℕ → Result ℕ Refusal
  csv_answer out = written_in (length out) (to_write (length csv_written) (table_at bytes place m))

module _ (container : List ℕ) (asked : CodecBytes) where
  abbrev onward_answer : List ℕ → Result ℕ Refusal
  onward_answer out = written_in (length out) (from_old container (video_codec asked) (audio_codec asked))

  abbrev onward_written : List ℕ
  onward_written = new_bytes (old.parts_of container) (video_codec asked) (audio_codec asked)

module _ (container : List ℕ) where
  abbrev back_answer : List ℕ → Result ℕ Refusal
  back_answer out = written_in (length out) (to_old container)

  abbrev back_written : List ℕ
  back_written = old_of (new.parts_of container)

pub WriteLeavesTheOutput : promised.WriteLeavesTheOutput
WriteLeavesTheOutput name video audio packing out out' r w = leaves (write_answer name video audio packing out) (film_written name video audio packing out) out out' r w

pub CsvLeavesTheOutput : promised.CsvLeavesTheOutput
CsvLeavesTheOutput bytes place m out out' r w = leaves (csv_answer bytes place m out) (csv_written bytes place m) out out' r w

pub FromOldLeavesTheOutput : promised.FromOldLeavesTheOutput
FromOldLeavesTheOutput container asked out out' r w = leaves (onward_answer container asked out) (onward_written container asked) out out' r w

pub ToOldLeavesTheOutput : promised.ToOldLeavesTheOutput
ToOldLeavesTheOutput container out out' r w = leaves (back_answer container out) (back_written container) out out' r w

-- ---- bytes past a size

pub BytesPastTheSizeStay : promised.BytesPastTheSizeStay
BytesPastTheSizeStay = (
  λ name video audio packing out out' r w z.
      written.BytesPastTheFilmStay name video audio packing out out' r.size (writing (write_answer name video audio packing out) (film_written name video audio packing out) out out' r w z),
  λ bytes place m out out' r w z. csv.BytesPastTheCsvStay bytes place m out out' r.size (writing (csv_answer bytes place m out) (csv_written bytes place m) out out' r w z),
  λ container asked out out' r w z.
      (moved.BytesPastTheSizeStay out out' r.size).0 container (video_codec asked) (audio_codec asked) (writing (onward_answer container asked out) (onward_written container asked) out out' r w z),
  λ container out out' r w z. (moved.BytesPastTheSizeStay out out' r.size).1 container (writing (back_answer container out) (back_written container) out out' r w z),
)

-- ---- a film that is read

sizes_replied : (fallback : ℕ) (x : Result Contents Refusal) → (film_reply fallback x).video_size + (film_reply fallback x).audio_size ≡ sizes_told x
sizes_replied fallback (Ok contents) = refl
sizes_replied fallback (Err refusal) = refl

pub EverySizeFits : promised.EverySizeFits
EverySizeFits container reading key fallback video audio r video_after audio_after l =
    let x = extracted_of container reading video audio in
    let fit = SizesToldFit container reading key video audio video_after audio_after x l.1 in
    rw l.0 (omega (arith, fit, sizes_replied (length fallback) x))

pub KeptIsAccepted : promised.KeptIsAccepted
KeptIsAccepted container r e z = by_answer (salvage_of container) refl
  where
    by_answer : (x : Result Kept Refusal) → salvage_of container ≡ x
        → (accepted (take r.kept container) ≡ true) × (r.kept + r.dropped ≡ length container)
        × (((r.kept ≡ length container) × (r.dropped ≡ 0) × (r.cause ≡ 0)) ⊎ ((r.cause ≡ 1) ⊎ (r.cause ≡ 9)))
    by_answer (Ok found) f =
        rw (e ∙ ap salvage_reply f)
        (salvaged.KeptIsAccepted container found.kept found.dropped found.cause f, salvaged.KeptAndDropped container found.kept found.dropped found.cause f, salvaged.CauseIsOneOrNine container found.kept found.dropped found.cause f)
    by_answer (Err refusal) f = absurd (numbered refusal.cause (sym (ap (λ (reply : SalvageReply). reply.number) (e ∙ ap salvage_reply f)) ∙ z))

pub WrittenIsReadBack : promised.WrittenIsReadBack
WrittenIsReadBack name video audio packing out out' r reading fallback seen heard seen' heard' r' mpeg other w z chosen v a l =
    let wrote = writing (write_answer name video audio packing out) (film_written name video audio packing out) out out' r w z in
    let read = extracted_of (take r.size out') reading seen heard in
    let back = written.ReadingBack name video audio packing out out' r.size reading seen heard seen' heard' read mpeg other wrote chosen v a l.1 in
    let q = l.0 ∙ ap (film_reply (length fallback)) back.0 in
    (q, rw q back.1, back.2, back.3)

pub WrittenIsPlain : promised.WrittenIsPlain
WrittenIsPlain name video audio packing out out' r r' mpeg other w z e =
    let wrote = writing (write_answer name video audio packing out) (film_written name video audio packing out) out out' r w z in
    let q = e ∙ ap profile_reply (profiled.WrittenIsPlain name video audio packing out out' r.size mpeg other wrote) in
    (ap (λ (reply : ProfileReply). reply.number) q, ap (λ (reply : ProfileReply). reply.rule) q)

pub CsvIsReadBack : promised.CsvIsReadBack
CsvIsReadBack bytes place m out out' r w z =
    csv.ReadingBack bytes place m out out' r.size (writing (csv_answer bytes place m out) (csv_written bytes place m) out out' r w z)

pub OldAgain : promised.OldAgain
OldAgain film' asked out out' r back back' r' w z fits w' =
    let moved_on = writing (onward_answer film' asked out) (onward_written film' asked) out out' r w z in
    let again = moved.OldAgain film' (video_codec asked) (audio_codec asked) out out' r.size back back' (back_answer (take r.size out') back) moved_on fits (refl, w'.1) in
    (w'.0 ∙ ap size_reply again.0, again.1)

pub NewAgain : promised.NewAgain
NewAgain container asked out out' r back back' r' video audio w z fits w' =
    let parts = (new.parts_of container).packing in
    let bytes = take r.size out' in
    let moved_back = writing (back_answer container out) (back_written container) out out' r w z in
    let named : WrittenAs (written_in (length back) (from_old bytes parts.mpeg_codec parts.audio_codec)) (new_bytes (old.parts_of bytes) parts.mpeg_codec parts.audio_codec) back r' back' =
    subst (λ (v : Option ℕ). WrittenAs (written_in (length back) (from_old bytes v parts.audio_codec)) (new_bytes (old.parts_of bytes) v parts.audio_codec) back r' back') video
    (subst (λ (a : Option ℕ). WrittenAs (written_in (length back) (from_old bytes (video_codec asked) a)) (new_bytes (old.parts_of bytes) (video_codec asked) a) back r' back') audio w') in
    let again = moved.NewAgain container out out' r.size back back' (written_in (length back) (from_old bytes parts.mpeg_codec parts.audio_codec)) moved_back fits (refl, named.1) in
    (named.0 ∙ ap size_reply again.0, again.1)

-- a reply that reads back, from an extraction that gives back
replied_back : (name video audio : List ℕ) (packing : Packing) (container : List ℕ) (reading : Reading) (fallback seen heard seen' heard' : List ℕ) (r : FilmReply)
    → FilmReplied container reading packing.key fallback seen heard r seen' heard'
    → GivesBack name video audio packing container seen heard (extracted_of container reading seen heard) seen' heard'
    → promised.RepliesBack name video audio packing container fallback seen heard r seen' heard'
replied_back name video audio packing container reading fallback seen heard seen' heard' r l back =
    let q = l.0 ∙ ap (film_reply (length fallback)) back.0 in
    (q, rw q back.1, back.2, back.3)

pub MovedIsRead : promised.MovedIsRead
MovedIsRead name video sound packing asked out out' r reading fallback seen heard seen' heard' r' utf8 silent mpeg other v a w z chosen rv ra l =
    let film' = old_bytes name (stored_in packing Video video) (old.audios_of packing.audio (stored_in packing Audio sound)) in
    let moved_on = writing (onward_answer film' asked out) (onward_written film' asked) out out' r w z in
    let named : FromOld film' packing.mpeg_codec packing.audio_codec out (Ok r.size) out' =
    subst (λ (c : Option ℕ). FromOld film' c packing.audio_codec out (Ok r.size) out') v
    (subst (λ (c : Option ℕ). FromOld film' (video_codec asked) c out (Ok r.size) out') a moved_on) in
    replied_back name video sound packing (take r.size out') reading fallback seen heard seen' heard' r' l
    (moved.MovedIsRead name video sound packing out out' r.size reading seen heard seen' heard' (extracted_of (take r.size out') reading seen heard) utf8 silent mpeg other named chosen rv ra l.1)

pub MovedIsPlain : promised.MovedIsPlain
MovedIsPlain film' asked out out' r r' mpeg other w z e =
    let moved_on = writing (onward_answer film' asked out) (onward_written film' asked) out out' r w z in
    let from = moved.MovedIsWritten film' (video_codec asked) (audio_codec asked) out out' r.size moved_on in
    let q = e ∙ ap profile_reply (profiled.WrittenIsPlain from.0.name from.0.video from.0.sound (packing_of from.0.audio (video_codec asked) (audio_codec asked)) out out' r.size mpeg other from.1) in
    (ap (λ (reply : ProfileReply). reply.number) q, ap (λ (reply : ProfileReply). reply.rule) q)

-- ---- two keys

module _ (container : List ℕ) (reading : Reading) (video audio : List ℕ) where
  -- a film that is accepted shows the bits that are replied
  bits_of : (f : Film) (contents : Contents) → film_of container reading ≡ f → extracted_of container reading video audio ≡ Ok contents
      → (key_bits_reply (key_bits_in f)).bits ≡ shown_bits f
  bits_of (film header applied chunks) contents e x = refl
  bits_of (refused refusal) contents e x =
      let q : Err refusal ≡ Ok contents = rw e at x in
      let z : ◌≡◌ {A = ℕ} 0 1 = cc in
      absurd (omega arith)

pub SameStreamsExactlyWhenBitsAgree : promised.SameStreamsExactlyWhenBitsAgree
SameStreamsExactlyWhenBitsAgree container reading key key' fallback video audio video_after audio_after video_after' audio_after' r r' answer l l' z e =
    by_answer (extracted_of container reading video audio) refl
  where
    by_answer : (x : Result Contents Refusal) → extracted_of container reading video audio ≡ x → AgreeIn answer.bits key key' ↔ ((video_after ≡ video_after') × (audio_after ≡ audio_after'))
    by_answer (Ok contents) f =
        let first = subst (λ (a : Result Contents Refusal). Extraction container reading (Some key) video audio a video_after audio_after) f l.1 in
        let second = subst (λ (a : Result Contents Refusal). Extraction container reading (Some key') video audio a video_after' audio_after') f l'.1 in
        let bits = ap (λ (reply : KeyBitsReply). reply.bits) e ∙ bits_of container reading video audio (film_of container reading) contents refl f in
        subst (λ (n : ℕ). AgreeIn n key key' ↔ ((video_after ≡ video_after') × (audio_after ≡ audio_after'))) (sym bits)
        (shown.SameStreamsExactlyWhenBitsAgree container reading key key' video audio video_after audio_after video_after' audio_after' contents contents first second)
    by_answer (Err refusal) f =
        absurd (numbered refusal.cause (sym (ap (λ (reply : FilmReply). reply.number) (l.0 ∙ ap (film_reply (length fallback)) f)) ∙ z))
