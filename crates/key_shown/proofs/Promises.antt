-- The promises of specs/Promises.antt, each under its name. Outputs that were the same before hold the same streams exactly when they are the same after; streams are
-- equal exactly when T agrees in the lanes that the film shows, which is what a clip of that length asks. Assumes nothing.
use Rattle.std.specs.Prelude.{Some, Ok, Err}
use Prim.Native.Nat.{ℕ, ◌+◌, ◌≤◌}
use mathlib.Core.Path.{◌≡◌, refl, sym, ap, ◌∙◌}
use mathlib.Core.Bool.{false}
use mathlib.Core.Logic.Iff
use mathlib.Core.Logic.{◌↔◌}
use mathlib.Core.List.{List}
use native.Mathlib.Omega.{arith}
use lib.ListN.{length, drop}
use lib.Seq.{sets, sets-eq}
use lib.Bits.{bit_and}
use Rattle.key.proofs.Promises.{EvenLanesTellTheirBits, OtherBitsCanBeCleared}
use Rattle.mask.specs.Positions.{lanes_shown}
use Rattle.clip.specs.Clips.{clip_tells}
use Rattle.clip.proofs.Promises.{NotToldApartExactlyWhenBitsAgree}
use Rattle.walk.specs.Walks.{walk_from, video_size, audio_size}
use Rattle.film.specs.Films.{Film, film, refused, film_of, survey_of}
use Rattle.extract.specs.declared.Contents.{Contents}
use Rattle.extract.proofs.AnswerLaws.{its_film}
use Rattle.extract.proofs.ResultLaws.{both_hold}
use Rattle.extract.proofs.Promises.{NoKeyChangesTheAnswer}
use Rattle.key_shown.specs.Shown.{shown_of}
use Rattle.key_shown.specs.KeyBits.{shown_bits}
use Rattle.key_shown.specs.Promises as promised
use Rattle.key_shown.proofs.PieceLaws.{split, Lanes, streams-decided}

-- a stream that is put at the front of an output can be read there
same_front : (out s s' : List ℕ) → length s ≡ length s' → length s ≤ length out → sets out 0 s ≡ sets out 0 s' → s ≡ s'
same_front out s s' l room e =
    (split s s' (drop (0 + length s) out) (drop (0 + length s') out) l (sym (sets-eq s out 0 (omega arith)) ∙ e ∙ sets-eq s' out 0 (omega arith))).0

clip_decides : (key key' n : ℕ) → (clip_tells n key key' ≡ false) ↔ Lanes key key' n
clip_decides key key' n = Iff.trans (NotToldApartExactlyWhenBitsAgree n key key') (Iff.symm (EvenLanesTellTheirBits key key' (lanes_shown n)))

pub SameStreamsExactlyWhenNotTold : promised.SameStreamsExactlyWhenNotTold
SameStreamsExactlyWhenNotTold container reading key key' video audio video_after audio_after video_after' audio_after' contents contents' e e' = by_film (film_of container reading) refl
  where
    by_film : (f : Film) → film_of container reading ≡ f → (clip_tells (shown_of (film_of container reading)) key key' ≡ false) ↔ ((video_after ≡ video_after') × (audio_after ≡ audio_after'))
    by_film (film header applied chunks) f =
        let s : film header applied chunks ≡ film header applied (walk_from container applied header.start).chunks =
        sym f ∙ its_film container reading header applied (length chunks) (video_size chunks) (audio_size chunks) (ap survey_of f) in
        let walked : (walk_from container applied header.start).chunks ≡ chunks = cc in
        let streams = rw walked at (streams-decided key key' header.audio_codec container applied header.start) in
        let clip = clip_decides key key' (shown_of (film header applied chunks)) in
        let hold = both_hold container reading header applied chunks f (Some key) video audio video_after audio_after contents e in
        let hold' = both_hold container reading header applied chunks f (Some key') video audio video_after' audio_after' contents' e' in
        let q = NoKeyChangesTheAnswer container reading (Some key) (Some key') video audio video audio (Ok contents) (Ok contents') video_after audio_after video_after' audio_after' refl refl e e' in
        let same : contents ≡ contents' = cc in
        rw f (
          λ told.
              let one = streams.1 (clip.0 told) in
              (hold.0.bytes ∙ ap (sets video 0) one.0 ∙ sym hold'.0.bytes, hold.1.bytes ∙ ap (sets audio 0) one.1 ∙ sym hold'.1.bytes),
          λ after.
              clip.1 (streams.0 (
                same_front video _ _ (hold.0.long ∙ ap (λ (c : Contents). c.video_size) same ∙ sym hold'.0.long) (omega (arith, hold.0.long, hold.0.room))
                    (sym hold.0.bytes ∙ after.0 ∙ hold'.0.bytes),
                same_front audio _ _ (hold.1.long ∙ ap (λ (c : Contents). c.audio_size) same ∙ sym hold'.1.long) (omega (arith, hold.1.long, hold.1.room))
                    (sym hold.1.bytes ∙ after.1 ∙ hold'.1.bytes),
              )),
        )
    by_film (refused refusal) f =
        let q : Ok contents ≡ Err refusal = rw f at e.0 in
        let z : ◌≡◌ {A = ℕ} 0 1 = cc in
        absurd (omega arith)

pub SameStreamsExactlyWhenBitsAgree : promised.SameStreamsExactlyWhenBitsAgree
SameStreamsExactlyWhenBitsAgree container reading key key' video audio video_after audio_after video_after' audio_after' contents contents' e e' =
    Iff.trans (Iff.symm (NotToldApartExactlyWhenBitsAgree (shown_of (film_of container reading)) key key'))
    (SameStreamsExactlyWhenNotTold container reading key key' video audio video_after audio_after video_after' audio_after' contents contents' e e')

pub OtherBitsChangeNoStream : promised.OtherBitsChangeNoStream
OtherBitsChangeNoStream container reading key video audio video_after audio_after video_after' audio_after' contents contents' e e' =
    let bits = shown_bits (film_of container reading) in
    (SameStreamsExactlyWhenBitsAgree container reading key (bit_and key bits) video audio video_after audio_after video_after' audio_after' contents contents' e e').0
    (OtherBitsCanBeCleared bits key)
