-- The promises of specs/Promises.antt, each under its name. Assumes nothing.
use Rattle.std.specs.Prelude.{Option, Result, Ok}
use Rattle.refusal.specs.declared.Refusal.{Refusal}
use Prim.Native.Nat.{ℕ, ◌+◌, ◌≤◌, ◌<◌}
use mathlib.Core.Path.{◌≡◌, refl, sym, ap, ap₂, ◌∙◌, subst}
use mathlib.Core.List.{List, [], ◌∷◌}
use mathlib.Core.Bool.{Bool, true, false, cond}
use native.Mathlib.Omega.{arith}
use lib.ListN.{length, take, drop}
use lib.Seq.{sets, sets-eq, length-sets, take_at, drop_at}
use borrow.Author.Tests.{le-ltb}
use Rattle.refusal.specs.declared.Cause.{Cause}
use Rattle.refusal.specs.declared.Cause.TheVariants.{Foreign, ManyAudios}
use Rattle.lent.specs.Written.{written_in, left_by}
use Rattle.lent.proofs.RoomLaws.{planned_so}
use Rattle.unmasking.specs.Unmasking.{unmasking_of}
use Rattle.utf8.specs.Utf8.{is_utf8}
use Rattle.write_plan.specs.declared.Stream.TheVariants.{Video, Audio}
use Rattle.write_plan.specs.Films.{audio_in, film_bytes}
use Rattle.write_plan.specs.Planning.{refused_by, planned_of}
use Rattle.write_plan.proofs.PlanLaws.{accepted}
use Rattle.write.specs.Writing.{WritingOf}
use Rattle.promises_write.specs.Promises.{GivesBack, stored_in, without_key}
use Rattle.promises_write.proofs.StoredLaws.{none_stored}
use Rattle.promises_write.proofs.Promises.{ReadingBack, KeyedIsStored}
use Rattle.old_film.specs.Films.{old_bytes}
use Rattle.old_film.specs.Finding as old
use Rattle.old_film.proofs.Promises.{FoundAgain}
use Rattle.old_film_many.specs.Audios.{is_many}
use Rattle.old_film_many.proofs.Promises.{SeveralAreTold}
use Rattle.moved_film.specs.Finding as new
use Rattle.moved_film.proofs.Promises as new-film
use Rattle.film_move.specs.FromOld.{packing_of, new_bytes, new_plan, from_old, FromOld}
use Rattle.film_move.specs.ToOld.{old_of, to_old}
use Rattle.film_move.proofs.ToLaws.{is_rebuilt_lem}
use Rattle.promises_move.specs.Promises as promised
use Rattle.promises_move.specs.Promises.{Gives, RefusesBy, Moved, Built}
use Rattle.promises_move.proofs.AgainLaws.{moved_so, film_is, film_silent, moved_taken, film_short, back_is, back_planned, new_short, onward_is, onward_planned, back_so}
use Rattle.promises_move.proofs.BuiltLaws.{film_longer, several_not_one, one_built, many_built}

-- ---- what was put at the front of an output stands there

taken : (out bytes : List ℕ) (n : ℕ) → n ≡ length bytes → n ≤ length out → take n (sets out 0 bytes) ≡ bytes
taken out bytes n e fits =
    let room : 0 + length bytes ≤ length out = omega (arith, e, fits) in
    ap (take n) (sets-eq bytes out 0 room) ∙ take_at bytes (drop (0 + length bytes) out) n (sym e)

-- what is planned gives bytes, wherever there is room for them
given : (bytes put out out' : List ℕ) (planned r : Result ℕ Refusal) → planned ≡ Ok (length bytes) → put ≡ bytes → length bytes ≤ length out → r ≡ written_in (length out) planned
    → out' ≡ left_by r out put → Gives bytes out r out'
given bytes put out out' planned r p s room e f =
    let answer : r ≡ Ok (length bytes) = e ∙ ap (written_in (length out)) p ∙ rw (le-ltb (length out) (length bytes) room) in
    (answer, f ∙ ap₂ (λ (t : Result ℕ Refusal) (l : List ℕ). left_by t out l) answer s)

-- ---- old to new to old

pub OldAgain : promised.OldAgain
OldAgain film mpeg other out out' size back back' r w room b =
    let so = planned_so (length out) (from_old film mpeg other) size (sym w.0) in
    let bytes = new_bytes (old.parts_of film) mpeg other in
    let written : take size out' ≡ bytes = ap (take size) w.1 ∙ taken out bytes size (moved_taken film mpeg other size so.0).sized so.1 in
    given film (old_of (new.parts_of (take size out'))) back back' (to_old (take size out')) r
    (ap to_old written ∙ back_planned film mpeg other size so.0) (ap (λ (l : List ℕ). old_of (new.parts_of l)) written ∙ back_is film mpeg other size so.0) room b.0 b.1

-- ---- new to old to new

module _ (c : List ℕ) (t : new.is_new c ≡ true) (within : length c ≤ 0x40000000) where
  abbrev mpeg : Option ℕ
  mpeg = (new.parts_of c).packing.mpeg_codec

  abbrev other : Option ℕ
  other = (new.parts_of c).packing.audio_codec

  onward : (out out' : List ℕ) (r : Result ℕ Refusal) → length c ≤ length out → FromOld (old_of (new.parts_of c)) mpeg other out r out' → Gives c out r out'
  onward out out' r room f =
      given c (new_bytes (old.parts_of (old_of (new.parts_of c))) mpeg other) out out' (from_old (old_of (new.parts_of c)) mpeg other) r (onward_planned c t within) (onward_is c t within) room f.0 f.1

  moved : Moved c
  moved = (old_of (new.parts_of c), (mpeg, (other, onward)))

pub NewAgain : promised.NewAgain
NewAgain c out out' size back back' r w room b =
    let so = planned_so (length out) (to_old c) size (sym w.0) in
    let is = back_so c size so.0 in
    let written : take size out' ≡ old_of (new.parts_of c) = ap (take size) w.1 ∙ taken out (old_of (new.parts_of c)) size (sym is.2) so.1 in
    onward c is.1 is.0 back back' r room
    (subst (λ (l : List ℕ). FromOld l (new.parts_of c).packing.mpeg_codec (new.parts_of c).packing.audio_codec back r back') written b)

-- ---- what is refused by 19 and 20

-- what is refused before an output is looked at is refused
refuses : (cause : Cause) (planned r : Result ℕ Refusal) (bytes out out' : List ℕ) → planned ≡ refused_by cause → r ≡ written_in (length out) planned → out' ≡ left_by r out bytes
    → RefusesBy cause out r out'
refuses cause planned r bytes out out' p e f = let q : r ≡ refused_by cause = e ∙ ap (written_in (length out)) p in (q, f ∙ ap (λ (t : Result ℕ Refusal). left_by t out bytes) q)

not_built : (c : List ℕ) (mpeg other : Option ℕ) (t u : Bool) → length c ≤ 0x40000000 → old.is_old c ≡ t → is_many c ≡ u → (Built c → ⊥) → from_old c mpeg other ≡ refused_by Foreign
unfolding from_old
not_built c mpeg other true u within e f h = absurd (h (one_built c e))
not_built c mpeg other false true within e f h = absurd (h (many_built c f))
not_built c mpeg other false false within e f h = rw (le-ltb 0x40000000 (length c) within, e, f)

pub ForeignIsNotBuilt : promised.ForeignIsNotBuilt
ForeignIsNotBuilt c mpeg other out out' r w within h =
    refuses Foreign (from_old c mpeg other) r (new_bytes (old.parts_of c) mpeg other) out out' (not_built c mpeg other (old.is_old c) (is_many c) within refl refl h) w.0 w.1

several_told : (name video : List ℕ) (audios : List (List ℕ)) (mpeg other : Option ℕ) → is_utf8 name ≡ true → 1 < length audios → length (old_bytes name video audios) ≤ 0x40000000
    → from_old (old_bytes name video audios) mpeg other ≡ refused_by ManyAudios
unfolding from_old
several_told name video [] mpeg other utf8 several within = absurd (omega arith)
several_told name video (some ∷ []) mpeg other utf8 several within = absurd (omega arith)
several_told name video (some ∷ (next ∷ audios)) mpeg other utf8 several within =
    let longer = film_longer name video (some ∷ (next ∷ audios)) in
    rw (
      le-ltb 0x40000000 (length (old_bytes name video (some ∷ (next ∷ audios)))) within,
      several_not_one name video some next audios (omega (arith, longer)),
      SeveralAreTold name video (some ∷ (next ∷ audios)) utf8 (omega (arith, longer)) several (omega (arith, longer)),
    )

pub SeveralAreRefused : promised.SeveralAreRefused
SeveralAreRefused name video audios mpeg other out out' r utf8 several within w =
    let film = old_bytes name video audios in
    refuses ManyAudios (from_old film mpeg other) r (new_bytes (old.parts_of film) mpeg other) out out' (several_told name video audios mpeg other utf8 several within) w.0 w.1

-- ---- what is written

-- audio that is not there is none
spoken : (audio : Bool) (sound : List ℕ) → (audio ≡ false → sound ≡ []) → sound ≡ cond audio sound []
spoken true sound silent = refl
spoken false sound silent = silent refl

others_planned : (name video : List ℕ) (audio : Bool) (sound : List ℕ) (mpeg other : Option ℕ) → is_utf8 name ≡ true → (audio ≡ false → sound ≡ [])
    → length (old_bytes name video (old.audios_of audio sound)) ≤ 0x40000000
    → (from_old (old_bytes name video (old.audios_of audio sound)) mpeg other ≡ planned_of name video sound (packing_of audio mpeg other))
    × (new_bytes (old.parts_of (old_bytes name video (old.audios_of audio sound))) mpeg other ≡ film_bytes name video sound (packing_of audio mpeg other))
unfolding from_old
others_planned name video audio sound mpeg other utf8 silent within =
    let longer = film_longer name video (old.audios_of audio sound) in
    let found = FoundAgain name video audio sound utf8 (omega (arith, longer)) silent in (
      rw (le-ltb 0x40000000 (length (old_bytes name video (old.audios_of audio sound))) within, found.0, found.1.0, found.1.1, found.1.3, found.1.4),
      rw (found.1.0, found.1.1, found.1.3, found.1.4),
    )

pub OthersAreWritten : promised.OthersAreWritten
OthersAreWritten name video audio sound mpeg other out out' r utf8 silent within w =
    let planned = others_planned name video audio sound mpeg other utf8 silent within in
    let by = packing_of audio mpeg other in
    subst (λ (l : List ℕ). WritingOf name video l by out r out') (spoken audio sound silent)
    (w.0 ∙ ap (written_in (length out)) planned.0, w.1 ∙ ap (left_by r out) planned.1)

pub MovedIsWritten : promised.MovedIsWritten
MovedIsWritten film mpeg other out out' size w =
    let so = planned_so (length out) (from_old film mpeg other) size (sym w.0) in
    let P = old.parts_of film in
    let is = film_is film mpeg other size so.0 in
    let silent = film_silent film mpeg other size so.0 in
    let planned = (moved_so film mpeg other size so.0).2 in
    let answer : Ok size ≡ written_in (length out) (new_plan P mpeg other) = sym (ap (written_in (length out)) planned ∙ rw (le-ltb (length out) size so.1)) in (
      record { name = P.name; video = P.read.video; audio = P.audio; sound = P.read.audio; utf8 = is.0; silent = silent; whole = is.1 },
      subst (λ (l : List ℕ). WritingOf P.name P.read.video l (packing_of P.audio mpeg other) out (Ok size) out') (spoken P.audio P.read.audio silent) (answer, w.1),
    )

pub MovedIsRead : promised.MovedIsRead
MovedIsRead name video sound packing out out' size reading seen heard seen' heard' r utf8 silent mpeg other w chosen v a x =
    let by = unmasking_of packing.key packing.audio_codec in
    let seen_stored = stored_in packing Video video in
    let heard-stored = stored_in packing Audio sound in
    let quiet : packing.audio ≡ false → heard-stored ≡ [] = λ e. ap (stored_in packing Audio) (silent e) ∙ none_stored by in
    let film = old_bytes name seen_stored (old.audios_of packing.audio heard-stored) in
    let so = planned_so (length out) (from_old film packing.mpeg_codec packing.audio_codec) size (sym w.0) in
    let within = (moved_so film packing.mpeg_codec packing.audio_codec size so.0).0 in
    let stored = OthersAreWritten name seen_stored packing.audio heard-stored packing.mpeg_codec packing.audio_codec out out' (Ok size) utf8 quiet within w in
    let written = (KeyedIsStored name video sound packing out out' (Ok size)).1 stored in
    let all : sound ≡ audio_in packing sound = spoken packing.audio sound silent in
    subst (λ (l : List ℕ). GivesBack name video l packing (take size out') seen heard r seen' heard') (sym all)
    (ReadingBack name video sound packing out out' size reading seen heard seen' heard' r mpeg other written chosen v (subst (λ (l : List ℕ). length l ≤ length heard) all a) x)

-- ---- and back

-- audio that is stored where there is some
audios_stored : (audio : Bool) (stored : List ℕ) → old.audios_of audio (cond audio stored []) ≡ old.audios_of audio stored
audios_stored true stored = refl
audios_stored false stored = refl

pub WrittenGoesBack : promised.WrittenGoesBack
unfolding to_old
WrittenGoesBack name video audio packing out out' size back back' r utf8 mpeg other w b =
    let seen_stored = stored_in packing Video video in
    let heard-stored = stored_in packing Audio audio in
    let none = without_key packing in
    let stored = (KeyedIsStored name video audio packing out out' (Ok size)).0 w in
    let heard = audio_in none heard-stored in
    let bytes = film_bytes name seen_stored heard none in
    let so = planned_so (length out) (planned_of name seen_stored heard none) size (sym stored.0) in
    let taken-up = accepted name seen_stored heard none size so.0 in
    let quiet : packing.audio ≡ false → heard ≡ [] = λ e. ap (λ (t : Bool). cond t heard-stored []) e in
    let found = new-film.FoundAgain name seen_stored heard none size utf8 refl mpeg other quiet so.0 in
    let written : take size out' ≡ bytes = ap (take size) stored.1 ∙ taken out bytes size taken-up.sized so.1 in
    let film = old_bytes name seen_stored (old.audios_of packing.audio heard-stored) in
    let gives : old_of (new.parts_of bytes) ≡ film =
    rw (found.1.0, found.1.1, found.1.3, found.1.4) (ap (old_bytes name seen_stored) (audios_stored packing.audio heard-stored)) in
    let planned : to_old bytes ≡ Ok (length film) = rw (le-ltb 0x40000000 (length bytes) taken-up.within, found.0) (ap (λ (l : List ℕ). Ok (length l)) gives) in (
      b.0 ∙ ap (λ (l : List ℕ). written_in (length back) (to_old l)) written ∙ ap (written_in (length back)) planned,
      b.1 ∙ ap (λ (l : List ℕ). left_by r back (old_of (new.parts_of l))) written ∙ ap (left_by r back) gives,
    )

moved_back : (c : List ℕ) → Moved c → to_old c ≡ Ok (length (old_of (new.parts_of c)))
moved_back c (film, (mpeg, (other, h))) =
    let bytes = new_bytes (old.parts_of film) mpeg other in
    let r = written_in (length c) (from_old film mpeg other) in
    let g : Gives c c r (left_by r c bytes) = h c (left_by r c bytes) r (omega arith) (refl, refl) in
    let so = planned_so (length c) (from_old film mpeg other) (length c) g.0 in
    let put : sets c 0 bytes ≡ sets c 0 c = ap (λ (t : Result ℕ Refusal). left_by t c bytes) (sym g.0) ∙ g.1 in
    let same : bytes ≡ c =
    sym (taken c bytes (length c) (moved_taken film mpeg other (length c) so.0).sized (omega arith)) ∙ ap (take (length c)) put ∙ taken c c (length c) refl (omega arith) in
    subst (λ (l : List ℕ). to_old l ≡ Ok (length (old_of (new.parts_of l)))) same
    (back_planned film mpeg other (length c) so.0 ∙ ap (λ (l : List ℕ). Ok (length l)) (sym (back_is film mpeg other (length c) so.0)))

not_moved : (c : List ℕ) → length c ≤ 0x40000000 → (t : Bool) → new.is_new c ≡ t → (Moved c → ⊥) → to_old c ≡ refused_by Foreign
unfolding to_old
not_moved c within true e h = absurd (h (moved c e within))
not_moved c within false e h = rw (le-ltb 0x40000000 (length c) within, e)

pub ForeignIsNotMoved : promised.ForeignIsNotMoved
ForeignIsNotMoved c out out' r w within = (
  λ m.
      let planned = moved_back c m in
      let is = back_so c (length (old_of (new.parts_of c))) planned in
      let film = old_of (new.parts_of c) in
      (film, (((new.parts_of c).name, ((new.parts_of c).read.video, (_, ((is_rebuilt_lem c is.1).0, refl)))), (w.0 ∙ ap (written_in (length out)) planned, w.1))),
  λ h. refuses Foreign (to_old c) r (old_of (new.parts_of c)) out out' (not_moved c within (new.is_new c) refl h) w.0 w.1,
)

-- ---- sizes, and refusals

pub OldIsShorter : promised.OldIsShorter
OldIsShorter = (
  λ film mpeg other out out' size w. film_short film mpeg other size (planned_so (length out) (from_old film mpeg other) size (sym w.0)).0,
  λ c out out' size w.
      let is = back_so c size (planned_so (length out) (to_old c) size (sym w.0)).0 in
      omega (arith, new_short c is.1, is.2),
)

pub RefusalsLeaveTheOutput : promised.RefusalsLeaveTheOutput
RefusalsLeaveTheOutput refusal out out' = (λ film mpeg other w. w.1, λ c w. w.1)

past : (out out' bytes : List ℕ) (size : ℕ) → size ≡ length bytes → size ≤ length out → out' ≡ sets out 0 bytes → (length out' ≡ length out) × (drop size out' ≡ drop size out)
past out out' bytes size sized fits e =
    let room : 0 + length bytes ≤ length out = omega (arith, sized, fits) in
    let n : 0 + length bytes ≡ size = omega (arith, sized) in
    (ap length e ∙ length-sets out 0 bytes, ap (drop size) (e ∙ sets-eq bytes out 0 room) ∙ drop_at bytes (drop (0 + length bytes) out) size (sym sized) ∙ ap (λ (k : ℕ). drop k out) n)

pub BytesPastTheSizeStay : promised.BytesPastTheSizeStay
BytesPastTheSizeStay out out' size = (
  λ film mpeg other w.
      let so = planned_so (length out) (from_old film mpeg other) size (sym w.0) in
      past out out' (new_bytes (old.parts_of film) mpeg other) size (moved_taken film mpeg other size so.0).sized so.1 w.1,
  λ c w.
      let so = planned_so (length out) (to_old c) size (sym w.0) in
      past out out' (old_of (new.parts_of c)) size (sym (back_so c size so.0).2) so.1 w.1,
)
