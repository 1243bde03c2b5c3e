-- Turns, one after the other: what is read so far, with what is read from here on, is all. Assumes nothing.
use Prim.Native.Nat.{ℕ, zero, suc, ◌+◌, ◌-◌, ◌*◌, ◌≤◌, ◌<◌}
use mathlib.Core.Path.{◌≡◌, refl, sym, ap, ◌∙◌}
use mathlib.Core.List.{List}
use mathlib.Core.Bool.{Bool, true, false, cond, ◌||◌, or-false}
use mathlib.Core.Logic.{⊎_elim}
use native.Mathlib.Omega.{arith}
use lib.ListN.{length, take, drop, length-drop, length-append}
use lib.Seq.{drop-drop, take_all}
use lib.Dec.{eqb}
use borrow.Author.Tests.{ne_eqb, eqb-true}
use Rattle.laws.proofs.Side.{side}
use Rattle.signature.specs.Signatures.{contents_end, stands_at}
use Rattle.turns.specs.declared.Track.TheVariants.{Video, Audio}
use Rattle.turns.specs.declared.Form.{Form}
use Rattle.turns.specs.declared.Seen.{Seen}
use Rattle.turns.specs.declared.Turns.{Turns}
use Rattle.turns.specs.Chunks.{chunk_size}
use Rattle.turns.specs.Turns.{Read, nothing, goes_on, seen_in, heard_in, turn_size, with_turn, turn_read, read_from, read_in, turn_by, turns_by}
use Rattle.turns.proofs.ChunkLaws.{Answers}

-- the bytes from a place on, as a part
pub from_place : (bytes : List ℕ) (place : ℕ) → take (length bytes - place) (drop place bytes) ≡ drop place bytes
from_place bytes place = take_all (length bytes - place) (drop place bytes) (rw length-drop (omega arith))

pub size_holds : (form : Form) (n : ℕ) → n ≤ chunk_size form n
unfolding chunk_size
size_holds form n =
    ⊎_elim (λ (z : n < 1). omega arith) (λ (some : 1 ≤ n). rw (ne_eqb n 0 (λ e. omega arith)) (omega arith)) (side n 1)

-- ---- a turn

abbrev pub TurnAnswers : Form → ℕ → Bool → Bool → List ℕ → Turns → Type 0
TurnAnswers form from seen heard bytes r =
    (r ≡ turn_by form (seen_in form from seen bytes) (heard_in form from seen heard bytes)) × (r.video ≤ 0x10000) × (r.audio ≤ 0x10000) × (r.end ≤ length bytes)

pub turn_answers : (form : Form) (from : ℕ) (seen heard : Bool) (bytes rest : List ℕ) (v a : Seen) (middle last : ℕ) (marked : Bool)
    → Answers form Video from seen bytes v → middle ≡ chunk_size form v.len → rest ≡ take (length bytes - middle) (drop middle bytes) → Answers form (Audio 0) from heard rest a
    → last ≡ chunk_size form a.len → marked ≡ (v.marked || a.marked)
    → TurnAnswers form from seen heard bytes (record { video = v.len; audio = a.len; end = middle + last; marked = marked })
turn_answers form from seen heard bytes rest v a middle last marked e f g h k m =
    let d : rest ≡ drop middle bytes = g ∙ from_place bytes middle in
    (rw (m, k, h.0, d, f, e.0), e.1, h.1, omega (arith, e.2, f, h.2, k, ap length d, length-drop middle bytes))

-- ---- all turns

pub record TurnsLeft (form : Form) (audio : Bool) (bytes : List ℕ) (place from : ℕ) (seen heard : Bool) (video sound : ℕ) (marked : Bool) : Type 0 where
  pub n : ℕ
  pub enough : (seen || heard) ≡ true → length bytes - place < n
  pub ahead : (seen || heard) ≡ true → from ≤ place
  pub within : place ≤ length bytes
  pub shown : video ≤ place
  pub heard_of : sound ≤ place
  pub videos : video + length (read_from form n from seen heard (drop place bytes)).video ≡ length (read_in form audio bytes).video
  pub sounds : sound + length (read_from form n from seen heard (drop place bytes)).audio ≡ length (read_in form audio bytes).audio
  pub ends : place + (read_from form n from seen heard (drop place bytes)).end ≡ (read_in form audio bytes).end
  pub marks : (marked || (read_from form n from seen heard (drop place bytes)).marked) ≡ (read_in form audio bytes).marked

module _ (form : Form) (audio : Bool) (bytes : List ℕ) where
  pub all_turns : TurnsLeft form audio bytes 0 0 true audio 0 0 false
  all_turns =
      record {
        n = length bytes + 1;
        enough = λ e. omega arith;
        ahead = λ e. omega arith;
        within = omega arith;
        shown = omega arith;
        heard_of = omega arith;
        videos = omega arith;
        sounds = omega arith;
        ends = omega arith;
        marks = refl;
      }

  pub read_over : (n from : ℕ) (seen heard : Bool) (rest : List ℕ) → (seen || heard) ≡ false → read_from form n from seen heard rest ≡ nothing
  unfolding read_from
  read_over zero from seen heard rest e = refl
  read_over (suc n) from seen heard rest e = rw e

  read_more : (n from : ℕ) (seen heard : Bool) (rest : List ℕ) → (seen || heard) ≡ true
      → read_from form (suc n) from seen heard rest ≡ turn_read form (read_from form n (from + 0x10000)) (seen_in form from seen rest) (heard_in form from seen heard rest) rest
  unfolding read_from
  read_more n from seen heard rest e = rw e

  -- a stream that goes on had a whole payload
  full : (v a size : ℕ) → v ≤ size → a ≤ size → (t u : Bool) → eqb v 0x10000 ≡ t → eqb a 0x10000 ≡ u → (t || u) ≡ true → 0x10000 ≤ size
  full v a size h k true u e f g = omega (arith, eqb-true v 0x10000 e)
  full v a size h k false true e f g = omega (arith, eqb-true a 0x10000 f)
  full v a size h k false false e f g = let z : ◌≡◌ {A = ℕ} 0 1 = cc in absurd (omega arith)

  module _ (place from : ℕ) (seen heard : Bool) (turn : Turns) (test : (seen || heard) ≡ true) (within : place ≤ length bytes)
      (answers : TurnAnswers form from seen heard (drop place bytes) turn) where
    abbrev v : List ℕ
    v = seen_in form from seen (drop place bytes)

    abbrev a : List ℕ
    a = heard_in form from seen heard (drop place bytes)

    v_is : turn.video ≡ length v
    v_is = ap (λ (t : Turns). t.video) answers.0

    a_is : turn.audio ≡ length a
    a_is = ap (λ (t : Turns). t.audio) answers.0

    end_is : turn.end ≡ turn_size form v a
    end_is = ap (λ (t : Turns). t.end) answers.0

    v_fits : turn.video ≤ turn.end
    v_fits = omega (arith, size_holds form (length v), v_is, end_is)

    a_fits : turn.audio ≤ turn.end
    a_fits = omega (arith, size_holds form (length a), a_is, end_is)

    pub end_fits : place + turn.end ≤ length bytes
    end_fits = omega (arith, answers.3, length-drop place bytes)

    pub streams_fit : (turn.video ≤ turn.end) × (turn.audio ≤ turn.end)
    streams_fit = (v_fits, a_fits)

    pub goes_on_lem : (eqb turn.video 0x10000 || eqb turn.audio 0x10000) ≡ true → 0x10000 ≤ turn.end
    goes_on_lem e = full turn.video turn.audio turn.end v_fits a_fits (eqb turn.video 0x10000) (eqb turn.audio 0x10000) refl refl e

    less_by : (t : Bool) → (t ≡ true → 0x10000 ≤ turn.end) → 2 * (length bytes - (place + turn.end)) + cond t 1 0 < 2 * (length bytes - place) + 1
    less_by true h = omega (arith, h refl, end_fits)
    less_by false h = omega (arith, end_fits)

    pub turn_less : 2 * (length bytes - (place + turn.end)) + cond (eqb turn.video 0x10000 || eqb turn.audio 0x10000) 1 0
        < 2 * (length bytes - place) + cond (seen || heard) 1 0
    turn_less = rw test (less_by (eqb turn.video 0x10000 || eqb turn.audio 0x10000) goes_on_lem)

    abbrev pub after : ℕ → Read
    after n = read_from form n (from + 0x10000) (eqb turn.video 0x10000) (eqb turn.audio 0x10000) (drop (place + turn.end) bytes)

    pub rest_is : (n : ℕ) → read_from form (suc n) from seen heard (drop place bytes) ≡ with_turn form v a (after n)
    rest_is n =
        read_more n from seen heard (drop place bytes) test
        ∙ ap (λ (l : List ℕ). with_turn form v a (read_from form n (from + 0x10000) (goes_on v) (goes_on a) l)) (drop-drop (turn_size form v a) place bytes)
        ∙ ap (λ (x : ℕ). with_turn form v a (read_from form n (from + 0x10000) (eqb x 0x10000) (goes_on a) (drop (place + turn_size form v a) bytes))) (sym v_is)
        ∙ ap (λ (x : ℕ). with_turn form v a (read_from form n (from + 0x10000) (eqb turn.video 0x10000) (eqb x 0x10000) (drop (place + turn_size form v a) bytes))) (sym a_is)
        ∙ ap (λ (x : ℕ). with_turn form v a (read_from form n (from + 0x10000) (eqb turn.video 0x10000) (eqb turn.audio 0x10000) (drop (place + x) bytes))) (sym end_is)

    module _ (video sound : ℕ) (marked : Bool) where
      or-group : (t u w : Bool) → (t || (u || w)) ≡ (t || u || w)
      or-group true u w = refl
      or-group false u w = refl

      next : (n : ℕ) → length bytes - place < n → from ≤ place → video ≤ place → sound ≤ place
          → video + length (read_from form n from seen heard (drop place bytes)).video ≡ length (read_in form audio bytes).video
          → sound + length (read_from form n from seen heard (drop place bytes)).audio ≡ length (read_in form audio bytes).audio
          → place + (read_from form n from seen heard (drop place bytes)).end ≡ (read_in form audio bytes).end
          → (marked || (read_from form n from seen heard (drop place bytes)).marked) ≡ (read_in form audio bytes).marked
          → TurnsLeft form audio bytes (place + turn.end) (from + 0x10000) (eqb turn.video 0x10000) (eqb turn.audio 0x10000) (video + turn.video) (sound + turn.audio)
          (marked || turn.marked)
      next zero e f s h vs ss es ms = absurd (omega arith)
      next (suc n) e f s h vs ss es ms =
          record {
            n = n;
            enough = λ g. omega (arith, goes_on_lem g, end_fits);
            ahead = λ g. omega (arith, goes_on_lem g);
            within = end_fits;
            shown = omega (arith, v_fits);
            heard_of = omega (arith, a_fits);
            videos = omega (arith, rw (rest_is n) at vs, length-append v (after n).video, v_is);
            sounds = omega (arith, rw (rest_is n) at ss, length-append a (after n).audio, a_is);
            ends = omega (arith, rw (rest_is n) at es, end_is);
            marks = rw (ap (λ (t : Turns). t.marked) answers.0) (sym (or-group marked (stands_at contents_end v 0 || stands_at contents_end a 0) (after n).marked) ∙ (rw (rest_is n) at ms));
          }

      pub next-turn : TurnsLeft form audio bytes place from seen heard video sound marked
          → TurnsLeft form audio bytes (place + turn.end) (from + 0x10000) (eqb turn.video 0x10000) (eqb turn.audio 0x10000) (video + turn.video) (sound + turn.audio)
          (marked || turn.marked)
      next-turn l = next l.n (l.enough test) (l.ahead test) l.shown l.heard_of l.videos l.sounds l.ends l.marks

  pub turns_done : (place from : ℕ) (seen heard : Bool) (video sound : ℕ) (marked : Bool) → TurnsLeft form audio bytes place from seen heard video sound marked
      → (seen || heard) ≡ false → (record { video = video; audio = sound; end = place; marked = marked } ≡ turns_by (read_in form audio bytes)) × (place ≤ length bytes)
  turns_done place from seen heard video sound marked l e =
      let z : read_from form l.n from seen heard (drop place bytes) ≡ nothing = read_over l.n from seen heard (drop place bytes) e in
      let vs : video ≡ length (read_in form audio bytes).video = omega (arith, rw z at l.videos) in
      let ss : sound ≡ length (read_in form audio bytes).audio = omega (arith, rw z at l.sounds) in
      let es : place ≡ (read_in form audio bytes).end = omega (arith, rw z at l.ends) in
      let ms : marked ≡ (read_in form audio bytes).marked = sym (or-false marked) ∙ (rw z at l.marks) in
      (rw (vs, ss, es, ms), l.within)
