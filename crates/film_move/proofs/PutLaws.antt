-- A chunk is put piece by piece, and turns chunk by chunk: each has room where the whole has, and together they are the whole. Assumes nothing.
use Prim.Native.Nat.{ℕ, zero, suc, ◌+◌, ◌-◌, ◌≤◌, ◌<◌}
use mathlib.Core.Path.{◌≡◌, refl, sym, ap, ap₂, ◌∙◌, subst}
use mathlib.Core.List.{List, [], ◌∷◌, ◌++◌}
use mathlib.Core.Bool.{Bool, true, false, ◌||◌}
use native.Mathlib.Omega.{arith}
use lib.ListN.{length, drop, length-replicate}
use lib.Seq.{drop-drop, take_all}
use lib.Dec.{eqb}
use Rattle.laws.specs.Outputs.{Put}
use Rattle.laws.proofs.PutLaws.{Left, all_left, less_left, left_fits, next_fits, none_left, put_then}
use Rattle.word.specs.Bytes.{zeros}
use Rattle.turns.specs.declared.Track.{Track}
use Rattle.turns.specs.declared.Track.TheVariants.{Video, Audio}
use Rattle.turns.specs.declared.Form.{Form}
use Rattle.turns.specs.declared.Shape.{Shape}
use Rattle.turns.specs.declared.Turns.{Turns}
use Rattle.turns.specs.Chunks.{shape_of, head_by, chunk_of, chunk_size, gap_of}
use Rattle.part.specs.Parts.{part_at}
use Rattle.turns.specs.Turns.{next_of, turns_of, Read, nothing, seen_in, heard_in, read_from, read_in}
use Rattle.turns.proofs.TurnLaws.{TurnAnswers, read_over, end_fits, goes_on_lem, after, rest_is}
use Rattle.turns.proofs.ReadLaws.{held, joins, joins_audio, turns_more, turns_none, turns_same, read_few}
use Rattle.turns.proofs.PayloadLaws.{payload_is}
use Rattle.film_move.specs.Moving.{moved_from}

-- ---- a chunk

module _ (form : Form) (track : Track) (from : ℕ) (payload out : List ℕ) (at : ℕ) (room : at + length (chunk_of form track from payload) ≤ length out) (shape : Shape)
    (e : shape ≡ shape_of form track from (length payload)) where
  abbrev held_by : List ℕ
  held_by = payload ++ zeros shape.pads

  all : Left (head_by shape ++ (zeros shape.gap ++ held_by)) out at (chunk_of form track from payload) out at
  unfolding chunk_of
  all = rw e (all_left (chunk_of form track from payload) out at)

  pub head_fits : at + length (head_by shape) ≤ length out
  head_fits = next_fits (head_by shape) (zeros shape.gap ++ held_by) all room

  module _ {out₁ : List ℕ} {at₁ : ℕ} (head : Put (head_by shape) out at out₁ at₁) where
    pub gap_has_room : at₁ + shape.gap ≤ length out₁
    gap_has_room = rw (length-replicate {A = ℕ} shape.gap 0) at (next_fits (zeros shape.gap) held_by (less_left all head) room)

    module _ {out₂ : List ℕ} {at₂ : ℕ} (gap : Put (zeros shape.gap) out₁ at₁ out₂ at₂) where
      pub payload-fits : at₂ + length payload ≤ length out₂
      payload-fits = next_fits payload (zeros shape.pads) (less_left (less_left all head) gap) room

      module _ {out₃ : List ℕ} {at₃ : ℕ} (inside : Put payload out₂ at₂ out₃ at₃) where
        pub pads-have-room : at₃ + shape.pads ≤ length out₃
        pads-have-room = rw (length-replicate {A = ℕ} shape.pads 0) at (left_fits (less_left (less_left (less_left all head) gap) inside) room)

        pub chunk-put : {out₄ : List ℕ} {at₄ : ℕ} → Put (zeros shape.pads) out₃ at₃ out₄ at₄ → Put (chunk_of form track from payload) out at out₄ at₄
        unfolding chunk_of
        chunk-put pads = rw e at (put_then head (put_then gap (put_then inside pads)))

-- ---- the next chunk

pub next_is : (form : Form) (track : Track) (from : ℕ) (payload : List ℕ) → length payload ≤ 0x10000 → (length payload ≡ 0 → ⊥)
    → next_of form track from payload ≡ chunk_of form track from payload
unfolding next_of
next_is form track from [] few some = absurd (some refl)
next_is form track from (byte ∷ payload) few some = ap (chunk_of form track from) (take_all 0x10000 (byte ∷ payload) few)

pub next_none : (form : Form) (track : Track) (from : ℕ) (payload : List ℕ) → length payload ≡ 0 → [] ≡ next_of form track from payload
unfolding next_of
next_none form track from [] e = refl
next_none form track from (byte ∷ payload) e = absurd (omega arith)

-- ---- turns

pub record MoveLeft (old new : Form) (audio : Bool) (bytes start : List ℕ) (first : ℕ) (out : List ℕ) (at place from : ℕ) (seen heard : Bool) : Type 0 where
  pub n : ℕ
  pub enough : (seen || heard) ≡ true → length bytes - place < n
  pub ahead : (seen || heard) ≡ true → from ≤ place
  pub within : place ≤ length bytes
  pub left : Left (turns_of new n from (read_from old n from seen heard (drop place bytes)).video (read_from old n from seen heard (drop place bytes)).audio) out at (moved_from old new audio bytes) start first

module _ (old new : Form) (audio : Bool) (bytes start : List ℕ) (first : ℕ) where
  abbrev whole : List ℕ
  whole = moved_from old new audio bytes

  all_moved : turns_of new (length bytes + 1) 0 (read_in old audio bytes).video (read_in old audio bytes).audio ≡ whole
  unfolding moved_from
  all_moved =
      let r = read_in old audio bytes in
      let few = read_few old (length bytes + 1) 0 true audio bytes in
      turns_same new (length bytes + 1) (length r.video + length r.audio) 0 r.video r.audio few.0 few.1 (omega arith) (omega arith)

  pub move_all : MoveLeft old new audio bytes start first start first 0 0 true audio
  move_all =
      record {
        n = length bytes + 1;
        enough = λ e. omega arith;
        ahead = λ e. omega arith;
        within = omega arith;
        left = subst (λ (l : List ℕ). Left l start first whole start first) (sym all_moved) (all_left whole start first);
      }

  module _ (out : List ℕ) (at place from : ℕ) (seen heard : Bool) (turn : Turns) (test : (seen || heard) ≡ true) (within : place ≤ length bytes)
      (answers : TurnAnswers old from seen heard (drop place bytes) turn) where
    abbrev v : List ℕ
    v = seen_in old from seen (drop place bytes)

    abbrev a : List ℕ
    a = heard_in old from seen heard (drop place bytes)

    abbrev behind : List ℕ
    behind = drop (chunk_size old (length v)) (drop place bytes)

    pub v_few : length v ≤ 0x10000
    v_few = (held old Video from (drop place bytes) seen).few

    pub a_few : length a ≤ 0x10000
    a_few = (held old (Audio 0) from behind heard).few

    -- the payloads, as parts
    pub v_part : part_at (drop place bytes) (28 + gap_of old) turn.video ≡ v
    v_part = ap (λ (t : Turns). part_at (drop place bytes) (28 + gap_of old) t.video) answers.0 ∙ payload_is old (drop place bytes) Video from seen

    pub a_part : (middle : ℕ) → middle ≡ place + chunk_size old turn.video → part_at (drop middle bytes) (28 + gap_of old) turn.audio ≡ a
    a_part middle e =
        ap₂ (λ (m k : ℕ). part_at (drop m bytes) (28 + gap_of old) k) (e ∙ ap (λ (t : Turns). place + chunk_size old t.video) answers.0) (ap (λ (t : Turns). t.audio) answers.0)
        ∙ ap (λ (l : List ℕ). part_at l (28 + gap_of old) (length a)) (sym (drop-drop (chunk_size old (length v)) place bytes)) ∙ payload_is old behind (Audio 0) from heard

    pub middle_fits : place + chunk_size old turn.video ≤ length bytes
    middle_fits =
        omega (arith, end_fits old audio bytes place from seen heard turn test within answers, ap (λ (t : Turns). t.end) answers.0, ap (λ (t : Turns). chunk_size old t.video) answers.0)

    module _ (n : ℕ) where
      abbrev later : Read
      later = after old audio bytes place from seen heard turn test within answers n

      turn_is : turns_of new (suc n) from (v ++ later.video) (a ++ later.audio)
          ≡ next_of new Video from v ++ (next_of new (Audio 0) from a ++ turns_of new n (from + 0x10000) later.video later.audio)
      turn_is =
          turns_more new n from v a later.video later.audio v_few a_few
          (joins old n (from + 0x10000) (eqb turn.video 0x10000) (eqb turn.audio 0x10000) (drop (place + turn.end) bytes) v (ap (λ (t : Turns). eqb t.video 0x10000) answers.0))
          (joins_audio old n (from + 0x10000) (eqb turn.video 0x10000) (eqb turn.audio 0x10000) (drop (place + turn.end) bytes) a (ap (λ (t : Turns). eqb t.audio 0x10000) answers.0))

    abbrev Goes : List ℕ → Type 0
    Goes rest = Left (next_of new Video from v ++ (next_of new (Audio 0) from a ++ rest)) out at whole start first

    peeled : (l : MoveLeft old new audio bytes start first out at place from seen heard) → (n : ℕ) × ((l.n ≡ suc n) × Goes (turns_of new n (from + 0x10000) (later n).video (later n).audio))
    peeled l = peel l.n (l.enough test) l.left where
      peel : (n : ℕ) → length bytes - place < n
          → Left (turns_of new n from (read_from old n from seen heard (drop place bytes)).video (read_from old n from seen heard (drop place bytes)).audio) out at whole start first
          → (m : ℕ) × ((n ≡ suc m) × Goes (turns_of new m (from + 0x10000) (later m).video (later m).audio))
      peel zero e f = absurd (omega arith)
      peel (suc m) e f =
          let whole-turn = subst (λ (r : Read). Left (turns_of new (suc m) from r.video r.audio) out at whole start first)
          (rest_is old audio bytes place from seen heard turn test within answers m) f in
          (m, (refl, subst (λ (l : List ℕ). Left l out at whole start first) (turn_is m) whole-turn))

    module _ (l : MoveLeft old new audio bytes start first out at place from seen heard) (room : first + length whole ≤ length start) where
      abbrev m : ℕ
      m = (peeled l).0

      abbrev rest : List ℕ
      rest = turns_of new m (from + 0x10000) (later m).video (later m).audio

      pub video-fits : at + length (next_of new Video from v) ≤ length out
      video-fits = next_fits (next_of new Video from v) (next_of new (Audio 0) from a ++ rest) (peeled l).1.1 room

      module _ {out₁ : List ℕ} {at₁ : ℕ} (put : Put (next_of new Video from v) out at out₁ at₁) where
        pub audio-fits : at₁ + length (next_of new (Audio 0) from a) ≤ length out₁
        audio-fits = next_fits (next_of new (Audio 0) from a) rest (less_left (peeled l).1.1 put) room

        pub turn_moved : {out₂ : List ℕ} {at₂ : ℕ} → Put (next_of new (Audio 0) from a) out₁ at₁ out₂ at₂
            → MoveLeft old new audio bytes start first out₂ at₂ (place + turn.end) (from + 0x10000) (eqb turn.video 0x10000) (eqb turn.audio 0x10000)
        turn_moved put' =
            record {
              n = m;
              enough = λ g. omega (arith, goes_on_lem old audio bytes place from seen heard turn test within answers g, end_fits old audio bytes place from seen heard turn test within answers, l.enough test, (peeled l).1.0);
              ahead = λ g. omega (arith, goes_on_lem old audio bytes place from seen heard turn test within answers g, l.ahead test);
              within = end_fits old audio bytes place from seen heard turn test within answers;
              left = less_left (less_left (peeled l).1.1 put) put';
            }

  pub moved_all : (out : List ℕ) (at place from : ℕ) (seen heard : Bool) → MoveLeft old new audio bytes start first out at place from seen heard → (seen || heard) ≡ false
      → Put whole start first out at
  moved_all out at place from seen heard l e =
      let z : read_from old l.n from seen heard (drop place bytes) ≡ nothing = read_over old audio bytes l.n from seen heard (drop place bytes) e in
      none_left
      (subst (λ (k : List ℕ). Left k out at whole start first) (turns_none new l.n from)
      (subst (λ (r : Read). Left (turns_of new l.n from r.video r.audio) out at whole start first) z l.left))
