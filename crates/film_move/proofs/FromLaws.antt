-- A film of the builder as request 1's: all but its chunks, and these between its header and its ends. Assumes nothing.
use Rattle.std.specs.Prelude.{Option, Some, None, Result, Ok, Err}
use Prim.Native.Nat.{ℕ, ◌+◌, ◌-◌, ◌*◌, ◌%◌, ◌≤◌, ◌<◌}
use mathlib.Core.Path.{◌≡◌, refl, sym, ap, ap₂, ◌∙◌, subst}
use mathlib.Core.List.{List, [], ◌++◌, append_assoc}
use mathlib.Core.Bool.{Bool, true, false, not, cond, ◌||◌, ◌&&◌}
use native.Mathlib.Omega.{arith}
use lib.ListN.{length, take, drop, length-append, length-drop}
use lib.Seq.{sets, sets-eq, length-sets, length-take-le, take_at, drop_at, drop-drop}
use lib.Dec.{ltb}
use borrow.Author.Tests.{lt-ltb, le-ltb, ltb-true}
use Rattle.laws.specs.Outputs.{Put}
use Rattle.laws.proofs.SetsLaws.{sets_append}
use Rattle.laws.proofs.PutLaws.{put_then}
use Rattle.part.specs.Parts.{part_at}
use Rattle.refusal.specs.declared.Cause.TheVariants.{TooLong, MarkedPayload, CodecAlone}
use Rattle.refusal.specs.declared.Refusal.{Refusal}
use Rattle.lent.specs.Written.{written_in, left_by}
use Rattle.write_plan.specs.declared.Packing.{Packing}
use Rattle.write_plan.specs.Payloads.{payloads_of}
use Rattle.write_plan.specs.Films.{bytes_of, end_blocks, audio_in, film_bytes}
use Rattle.write_plan.specs.Planning.{any_marked, is_given, refused_by, planned_of}
use Rattle.write_plan.proofs.PlanLaws.{accepted}
use Rattle.write.specs.Writing.{WritingOf, Writing}
use Rattle.turns.specs.declared.Form.{Form}
use Rattle.turns.specs.declared.Form.TheVariants.{Old, New}
use Rattle.turns.specs.Turns.{chunks_of, stream_size, Read, read_in}
use Rattle.turns.proofs.SizeLaws.{size_few, chunks_length, read_fits}
use Rattle.turns.proofs.PayloadLaws.{part_again}
use Rattle.word.specs.Numbers.{be32}
use Rattle.moved_film.proofs.FilmLaws.{header, ends, film_laid, frame_laid, header_size_lem}
use Rattle.moved_film.proofs.FindLaws.{rest_part}
use Rattle.moved_film.proofs.FrameLaws.{none_either}
use Rattle.old_film.specs.declared.OldFilm.{OldFilm}
use Rattle.old_film.specs.Finding.{Parts, parts_of, is_old, film_by, found_in}
use Rattle.film_move.specs.Moving.{moved_from}
use Rattle.film_move.specs.FromOld.{planned_as, packing_of, cause_of, from_old, FromOld}
use Rattle.film_move.proofs.MarkLaws.{none_marked, read_marked}

-- ---- stores over stores that are no longer

sets_over : (out some others : List ℕ) (at : ℕ) → length some ≤ length others → at + length others ≤ length out → sets (sets out at some) at others ≡ sets out at others
sets_over out some others at few room =
    let more = length others - length some in
    let s : at + length some ≤ length out = omega arith in
    let c : length (take at out) ≡ at = length-take-le at out (omega arith) in
    let l : length (sets out at some) ≡ length out = length-sets out at some in
    let f : length (take at out ++ some) ≡ at + length some = length-append (take at out) some ∙ ap (λ (m : ℕ). m + length some) c in
    let t : take at (sets out at some) ≡ take at out =
    ap (take at) (sets-eq some out at s ∙ append_assoc (take at out) some (drop (at + length some) out)) ∙ take_at (take at out) (some ++ drop (at + length some) out) at c in
    let d : drop (at + length some) (sets out at some) ≡ drop (at + length some) out =
    ap (drop (at + length some)) (sets-eq some out at s) ∙ drop_at (take at out ++ some) (drop (at + length some) out) (at + length some) f in
    let n : at + length some + more ≡ at + length others = omega arith in
    let e : drop (at + length others) (sets out at some) ≡ drop (at + length others) out =
    ap (λ (m : ℕ). drop m (sets out at some)) (sym n) ∙ sym (drop-drop more (at + length some) (sets out at some)) ∙ ap (drop more) d
    ∙ drop-drop more (at + length some) out ∙ ap (λ (m : ℕ). drop m out) n in
    sets-eq others (sets out at some) at (omega (arith, l)) ∙ ap₂ (λ (x y : List ℕ). x ++ others ++ y) t e ∙ sym (sets-eq others out at room)

-- what is put between a front and an end, with the end again after it
pub sets_between : (out front end inside : List ℕ) → length (front ++ (inside ++ end)) ≤ length out
    → sets (sets out 0 (front ++ end)) (length front) (inside ++ end) ≡ sets out 0 (front ++ (inside ++ end))
sets_between out front end inside room =
    let n : 0 + length front ≡ length front = omega arith in
    let l = length-sets out 0 front in
    let w = length-append front (inside ++ end) in
    let i = length-append inside end in
    ap (λ (o : List ℕ). sets o (length front) (inside ++ end)) (sets_append out front end 0 ∙ ap (λ (m : ℕ). sets (sets out 0 front) m end) n)
    ∙ sets_over (sets out 0 front) end (inside ++ end) (length front) (omega (arith, i)) (omega (arith, l, w))
    ∙ ap (λ (m : ℕ). sets (sets out 0 front) m (inside ++ end)) (sym n) ∙ sym (sets_append out front (inside ++ end) 0)

-- ---- sizes

pub stream_few : (form : Form) (n : ℕ) → stream_size form n ≤ 2 * n + 63
unfolding stream_size
stream_few form n = let l = size_few form (n % 0x10000) (omega arith) in omega (arith, l)

-- ---- the film that is written

module _ (name : List ℕ) (packing : Packing) (k : packing.key ≡ None) where
  -- where its header ends, by the size of what is written without a payload: its ends begin there
  pub start_is : (n size : ℕ) → planned_of name [] [] packing ≡ Ok n → size ≡ length (ends packing) → (size ≤ n) × (n - size ≡ length (header name packing))
  start_is n size e s = let a = accepted name [] [] packing n e in (omega (arith, a.sized, header_size_lem name packing k), omega (arith, a.sized, header_size_lem name packing k))

  module _ (video audio : List ℕ) where
    abbrev whole : ℕ
    whole = length (film_bytes name video audio packing)

    abbrev frame : ℕ
    frame = length (film_bytes name [] [] packing)

    abbrev sizes : ℕ
    sizes = stream_size New (length video) + stream_size New (length audio)

    whole_size : whole ≡ frame + sizes
    whole_size =
        ap length (film_laid name packing k video audio) ∙ length-append (header name packing) (chunks_of New video audio ++ ends packing)
        ∙ omega (arith, length-append (chunks_of New video audio) (ends packing), chunks_length New video audio, header_size_lem name packing k)

    -- ---- what is planned

    abbrev alone : Bool
    alone = not packing.audio && is_given packing.audio_codec

    abbrev marked : Bool
    marked = any_marked (payloads_of video) || any_marked (payloads_of audio)

    pub plan_sized : (n : ℕ) (t : Bool) → planned_of name [] [] packing ≡ Ok n → t ≡ marked → planned_as (n + sizes) t ≡ planned_of name video audio packing
    unfolding planned_of
    plan_sized n t e m =
        let a = accepted name [] [] packing n e in
        let s : n + sizes ≡ whole = omega (arith, a.sized, whole_size) in
        rw a.given (ap₂ planned_as s m)

    first_refused : (t u w x : Bool) (n : ℕ) (rest : Result ℕ Refusal) (refusal : Refusal) → (u ≡ true → x ≡ true) → w ≡ false
        → cond t (refused_by CodecAlone) (cond u (refused_by TooLong) (cond w (refused_by MarkedPayload) (Ok n))) ≡ Err refusal
        → Err refusal ≡ cond t (refused_by CodecAlone) (cond x (refused_by TooLong) rest)
    first_refused true u w x n rest refusal h k e = sym e
    first_refused false true w x n rest refusal h k e = rw (h refl) (sym e)
    first_refused false false true x n rest refusal h k e = let z : ◌≡◌ {A = ℕ} 0 1 = cc in absurd (omega arith)
    first_refused false false false x n rest refusal h k e = let z : ◌≡◌ {A = ℕ} 0 1 = cc in absurd (omega arith)

    pub plan_refused : (refusal : Refusal) → planned_of name [] [] packing ≡ Err refusal → Err refusal ≡ planned_of name video audio packing
    unfolding planned_of
    plan_refused refusal e =
        first_refused alone (ltb 0x40000000 frame) (any_marked (payloads_of []) || any_marked (payloads_of [])) (ltb 0x40000000 whole) frame
        (cond marked (refused_by MarkedPayload) (Ok whole)) refusal
        (λ h. lt-ltb 0x40000000 whole (omega (arith, ltb-true 0x40000000 frame h, whole_size)))
        (rw none_marked) e

    -- ---- what is put

    module _ (out out₁ : List ℕ) (room : whole ≤ length out) where
      pub frame-put : (n : ℕ) (r : Result ℕ Refusal) → planned_of name [] [] packing ≡ Ok n → Writing name [] [] packing out r out₁ → out₁ ≡ sets out 0 (header name packing ++ ends packing)
      frame-put n r e w =
          let a = accepted name [] [] packing n e in
          let fits : n ≤ length out = omega (arith, a.sized, whole_size) in
          let w' : WritingOf name [] [] packing out r out₁ = rw (none_either packing.audio) at w in
          let same : r ≡ Ok n = w'.0 ∙ ap (written_in (length out)) e ∙ rw (le-ltb (length out) n fits) in
          w'.1 ∙ ap (λ (t : Result ℕ Refusal). left_by t out (film_bytes name [] [] packing)) same ∙ ap (sets out 0) (frame_laid name packing k)

      module _ (framed : out₁ ≡ sets out 0 (header name packing ++ ends packing)) (start : ℕ) (s : start ≡ length (header name packing)) (moved : List ℕ) (m : moved ≡ chunks_of New video audio) where
        laid_length : whole ≡ length (header name packing) + (length moved + length (ends packing))
        laid_length =
            ap length (film_laid name packing k video audio) ∙ length-append (header name packing) (chunks_of New video audio ++ ends packing)
            ∙ omega (arith, length-append (chunks_of New video audio) (ends packing), ap length m)

        turns-room : start + length moved ≤ length out₁
        turns-room = omega (arith, ap length framed, length-sets out 0 (header name packing ++ ends packing), laid_length, s)

        module _ {out₂ : List ℕ} {at : ℕ} (turned : Put moved out₁ start out₂ at) where
          ends-room : at + length (ends packing) ≤ length out₂
          ends-room = omega (arith, ap length framed, length-sets out 0 (header name packing ++ ends packing), laid_length, s, turned.ends, ap length turned.holds, length-sets out₁ start moved)

          all_put : {out₃ : List ℕ} {end : ℕ} → Put (ends packing) out₂ at out₃ end → out₃ ≡ sets out 0 (film_bytes name video audio packing)
          all_put ended =
              (put_then turned ended).holds ∙ ap₂ (λ (o : List ℕ) (n : ℕ). sets o n (moved ++ ends packing)) framed s
              ∙ ap (λ (l : List ℕ). sets (sets out 0 (header name packing ++ ends packing)) (length (header name packing)) (l ++ ends packing)) m
              ∙ sets_between out (header name packing) (ends packing) (chunks_of New video audio) (rw (film_laid name packing k video audio) at room) ∙ ap (sets out 0) (sym (film_laid name packing k video audio))

-- ---- the parts of a film that was found

film_told : (t : Bool) (film other : OldFilm) → cond t (Some other) None ≡ Some film → (t ≡ true) × (film ≡ other)
film_told true film other e = (refl, cc)
film_told false film other e = let z : ◌≡◌ {A = ℕ} 0 1 = cc in absurd (omega arith)

none_told : (t : Bool) (other : OldFilm) → cond t (Some other) None ≡ None → t ≡ false
none_told true other e = let z : ◌≡◌ {A = ℕ} 0 1 = cc in absurd (omega arith)
none_told false other e = refl

module _ (c : List ℕ) where
  pub is_film_lem : (film : OldFilm) → found_in c ≡ Some film → (is_old c ≡ true) × (film ≡ film_by (parts_of c))
  unfolding found_in
  is_film_lem film e = film_told (is_old c) film (film_by (parts_of c)) e

  pub is_foreign : found_in c ≡ None → is_old c ≡ false
  unfolding found_in
  is_foreign e = none_told (is_old c) (film_by (parts_of c)) e

  abbrev P : Parts
  P = parts_of c

  read_is : P.read ≡ read_in Old P.audio (drop P.start c)
  unfolding parts_of
  read_is = refl

  name_is : part_at c 96 (length P.name) ≡ P.name
  unfolding parts_of
  name_is = part_again c 96 (be32 c 4 - 89)

  module _ (film : OldFilm) (e : film ≡ film_by P) where
    pub name_part : part_at c 96 film.name ≡ P.name
    name_part = ap (λ (f : OldFilm). part_at c 96 f.name) e ∙ name_is

    pub moved_is : (chunks : List ℕ) → chunks ≡ part_at c film.start (length c - film.start) → moved_from Old New film.audio chunks ≡ chunks_of New P.read.video P.read.audio
    unfolding moved_from
    moved_is chunks h =
        ap₂ (λ (f : OldFilm) (l : List ℕ). chunks_of New (read_in Old f.audio l).video (read_in Old f.audio l).audio) e
        (h ∙ rest_part c film.start ∙ ap (λ (f : OldFilm). drop f.start c) e)
        ∙ ap (λ (r : Read). chunks_of New r.video r.audio) (sym read_is)

    pub video_is : film.turns.video ≡ length P.read.video
    video_is = ap (λ (f : OldFilm). f.turns.video) e

    pub audio_is : film.turns.audio ≡ length P.read.audio
    audio_is = ap (λ (f : OldFilm). f.turns.audio) e

    pub marked_is : film.turns.marked ≡ (any_marked (payloads_of P.read.video) || any_marked (payloads_of P.read.audio))
    marked_is =
        ap (λ (f : OldFilm). f.turns.marked) e ∙ ap (λ (r : Read). r.marked) read_is ∙ read_marked Old (length (drop P.start c) + 1) 0 true P.audio (drop P.start c)
        ∙ ap (λ (r : Read). any_marked (payloads_of r.video) || any_marked (payloads_of r.audio)) (sym read_is)

    pub turns_few : length c ≤ 0x40000000 → (film.turns.video ≤ 0x40000000) × (film.turns.audio ≤ 0x40000000)
    turns_few h =
        let f : length P.read.video + length P.read.audio ≤ length (drop P.start c) =
        subst (λ (r : Read). length r.video + length r.audio ≤ length (drop P.start c)) (sym read_is) (read_fits Old P.audio (drop P.start c)) in
        let l = length-drop P.start c in
        (omega (arith, f, l, h, video_is), omega (arith, f, l, h, audio_is))

    -- ---- what is planned, by what is planned without a payload

    module _ (packing : Packing) where
      pub plan-named : (name : List ℕ) (r : Result ℕ Refusal) → name ≡ part_at c 96 film.name → r ≡ planned_of name [] (audio_in packing []) packing → planned_of P.name [] [] packing ≡ r
      plan-named name r n f = sym (f ∙ ap₂ (λ (l a : List ℕ). planned_of l [] a packing) (n ∙ name_part) (none_either packing.audio))

      pub plan-moved : packing.key ≡ None → (frame : ℕ) → planned_of P.name [] [] packing ≡ Ok frame
          → planned_as (frame + (stream_size New film.turns.video + stream_size New film.turns.audio)) film.turns.marked
          ≡ planned_of P.name P.read.video P.read.audio packing
      plan-moved k frame f = rw (video_is, audio_is) (plan_sized P.name packing k P.read.video P.read.audio frame film.turns.marked f marked_is)

    -- ---- the film moved: what is written without a payload, its turns from the end of the header on, and its ends after them

    module _ (packing : Packing) (k : packing.key ≡ None) (n : ℕ) (f : planned_of P.name [] [] packing ≡ Ok n) (out : List ℕ)
        (room : length (film_bytes P.name P.read.video P.read.audio packing) ≤ length out) {name : List ℕ} (g : name ≡ part_at c 96 film.name) {r : Result ℕ Refusal} {out₁ : List ℕ}
        (w : Writing name [] [] packing out r out₁) {size : ℕ} (s : size ≡ length (bytes_of (end_blocks packing))) {left : ℕ} (l : left ≡ length c - film.start) {chunks : List ℕ}
        (h : chunks ≡ part_at c film.start left) where
      named : Writing P.name [] [] packing out r out₁
      named = subst (λ (l : List ℕ). Writing l [] [] packing out r out₁) (g ∙ name_part) w

      framed : out₁ ≡ sets out 0 (header P.name packing ++ ends packing)
      framed = frame-put P.name packing k P.read.video P.read.audio out out₁ room n r f named

      starts : n - size ≡ length (header P.name packing)
      starts = (start_is P.name packing k n size f s).1

      abbrev moved : List ℕ
      moved = moved_from Old New film.audio chunks

      same : moved ≡ chunks_of New P.read.video P.read.audio
      same = moved_is chunks (h ∙ ap (part_at c film.start) l)

      pub moved-fits : n - size + length moved ≤ length out₁
      moved-fits = turns-room P.name packing k P.read.video P.read.audio out out₁ room framed (n - size) starts moved same

      module _ {out₂ : List ℕ} {at : ℕ} (turned : Put moved out₁ (n - size) out₂ at) where
        pub ends_fit : at + length (bytes_of (end_blocks packing)) ≤ length out₂
        ends_fit = ends-room P.name packing k P.read.video P.read.audio out out₁ room framed (n - size) starts moved same turned

        pub film-moved : {out₃ : List ℕ} {end : ℕ} → Put (bytes_of (end_blocks packing)) out₂ at out₃ end → out₃ ≡ sets out 0 (film_bytes P.name P.read.video P.read.audio packing)
        film-moved ended = all_put P.name packing k P.read.video P.read.audio out out₁ room framed (n - size) starts moved same turned ended

  -- ---- what is answered

  module _ (mpeg-codec audio-codec : Option ℕ) (out : List ℕ) (r : Result ℕ Refusal) where
    pub from_long : 0x40000000 < length c → r ≡ refused_by TooLong → FromOld c mpeg-codec audio-codec out r out
    unfolding from_old
    from_long h e = rw (e, lt-ltb 0x40000000 (length c) h) (refl, refl)

    pub from_foreign : length c ≤ 0x40000000 → found_in c ≡ None → r ≡ refused_by (cause_of c) → FromOld c mpeg-codec audio-codec out r out
    unfolding from_old
    from_foreign h f e = rw (e, le-ltb 0x40000000 (length c) h, is_foreign f) (refl, refl)

    pub from_film : (film : OldFilm) (packing : Packing) (out' : List ℕ) → length c ≤ 0x40000000 → found_in c ≡ Some film → packing ≡ packing_of film.audio mpeg-codec audio-codec
        → WritingOf P.name P.read.video P.read.audio packing out r out' → FromOld c mpeg-codec audio-codec out r out'
    unfolding from_old
    from_film film packing out' h f e w =
        let t = is_film_lem film f in
        let p : packing ≡ packing_of P.audio mpeg-codec audio-codec = e ∙ ap (λ (o : OldFilm). packing_of o.audio mpeg-codec audio-codec) t.1 in
        let w' : WritingOf P.name P.read.video P.read.audio (packing_of P.audio mpeg-codec audio-codec) out r out' =
        subst (λ (q : Packing). WritingOf P.name P.read.video P.read.audio q out r out') p w in
        rw (le-ltb 0x40000000 (length c) h, t.0) w'
