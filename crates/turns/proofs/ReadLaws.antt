-- What is read stands there: bytes begin with the turns of the streams that are read in them. Assumes nothing.
use Prim.Native.Nat.{ℕ, zero, suc, ◌+◌, ◌*◌, ◌≤◌}
use mathlib.Core.Path.{◌≡◌, refl, sym, ap, ap₂, ◌∙◌}
use mathlib.Core.List.{List, [], ◌∷◌, ◌++◌, append-nil, append_assoc}
use mathlib.Core.Bool.{Bool, true, false, not, cond, ◌||◌, ◌&&◌}
use mathlib.Core.Logic.{◌⊎◌, ⊎_elim, inl, inr}
use native.Mathlib.Omega.{arith}
use lib.ListN.{length, take, drop, length-drop, length-append, drop_of_length-le}
use lib.Seq.{drop-drop, take_all, take_at, drop_at}
use lib.Dec.{ltb}
use borrow.Author.Tests.{eqb-true, ltb-false}
use Rattle.signature.specs.Signatures.{stands_at}
use Rattle.turns.specs.declared.Track.{Track}
use Rattle.turns.specs.declared.Track.TheVariants.{Video, Audio}
use Rattle.turns.specs.declared.Form.{Form}
use Rattle.turns.specs.Chunks.{chunk_of, chunk_size, inside_of, is_end, payload_in}
use Rattle.turns.specs.Turns.{next_of, turns_of, chunks_of, Read, nothing, goes_on, seen_in, heard_in, turn_size, with_turn, read_from, read_in}
use Rattle.turns.proofs.FrontLaws.{stands_front, front_true}
use Rattle.turns.proofs.ChunkLaws.{chunk_length, size_none}

-- ---- a payload that is read

pub record IsHeld (form : Form) (track : Track) (from : ℕ) (bytes payload : List ℕ) : Type 0 where
  pub few : length payload ≤ 0x10000
  pub stands : bytes ≡ next_of form track from payload ++ drop (chunk_size form (length payload)) bytes

module _ (form : Form) (track : Track) (from : ℕ) (bytes : List ℕ) where
  none_held : IsHeld form track from bytes []
  unfolding next_of
  none_held = record { few = omega arith; stands = rw (size_none form) }

  some_held : (payload : List ℕ) → length payload ≤ 0x10000 → stands_at (chunk_of form track from payload) bytes 0 ≡ true → IsHeld form track from bytes payload
  unfolding next_of
  some_held [] h e = none_held
  some_held (byte ∷ payload) h e =
      let whole : take 0x10000 (byte ∷ payload) ≡ byte ∷ payload = take_all 0x10000 (byte ∷ payload) h in
      record {
        few = h;
        stands =
            front_true (chunk_of form track from (byte ∷ payload)) bytes (sym (stands_front (chunk_of form track from (byte ∷ payload)) bytes 0) ∙ e)
            ∙ ap₂ (λ (l : List ℕ) (n : ℕ). chunk_of form track from l ++ drop n bytes) (sym whole) (chunk_length form track from (byte ∷ payload) (omega arith));
      }

  not-false : (t : Bool) → not t ≡ true → t ≡ false
  not-false true e = let z : ◌≡◌ {A = ℕ} 0 1 = cc in absurd (omega arith)
  not-false false e = refl

  tested : (payload : List ℕ) (t u w : Bool) → t ≡ ltb 0x10000 (length payload) → u ≡ stands_at (chunk_of form track from payload) bytes 0
      → IsHeld form track from bytes (cond (not t && u && w) payload [])
  tested payload true u w e f = none_held
  tested payload false false w e f = none_held
  tested payload false true false e f = none_held
  tested payload false true true e f = some_held payload (ltb-false 0x10000 (length payload) (sym e)) (sym f)

  pub held : (going : Bool) → IsHeld form track from bytes (payload_in form track from going bytes)
  unfolding payload_in
  held true = tested (inside_of form bytes) (ltb 0x10000 (length (inside_of form bytes))) (stands_at (chunk_of form track from (inside_of form bytes)) bytes 0) (not (is_end form (inside_of form bytes))) refl refl
  held false = none_held

-- ---- a stream that does not go on has no more

pub closed : (form : Form) (track : Track) (from : ℕ) (bytes : List ℕ) (going : Bool) → going ≡ false → payload_in form track from going bytes ≡ []
unfolding payload_in
closed form track from bytes going e = rw e

module _ (form : Form) where
  pub read_none : (from : ℕ) (seen heard : Bool) (bytes : List ℕ) → read_from form 0 from seen heard bytes ≡ nothing
  unfolding read_from
  read_none from seen heard bytes = refl

  -- one turn more, or none
  module _ (n from : ℕ) (seen heard : Bool) (bytes : List ℕ) where
    abbrev v : List ℕ
    v = seen_in form from seen bytes

    abbrev a : List ℕ
    a = heard_in form from seen heard bytes

    abbrev after : Read
    after = read_from form n (from + 0x10000) (goes_on v) (goes_on a) (drop (turn_size form v a) bytes)

    pub by_cases : (P : Read → Type 0) → P nothing → P (with_turn form v a after) → P (read_from form (suc n) from seen heard bytes)
    unfolding read_from
    by_cases P none some = pick (seen || heard) where
      pick : (t : Bool) → P (cond t (with_turn form v a after) nothing)
      pick true = some
      pick false = none

  no_video : (n from : ℕ) (seen heard : Bool) (bytes : List ℕ) → seen ≡ false → (read_from form n from seen heard bytes).video ≡ []
  no_video zero from seen heard bytes e = ap (λ (r : Read). r.video) (read_none from seen heard bytes)
  no_video (suc n) from seen heard bytes e =
      let z : seen_in form from seen bytes ≡ [] = closed form Video from bytes seen e in
      by_cases n from seen heard bytes (λ r. r.video ≡ []) refl
      (ap₂ (λ (l m : List ℕ). l ++ m) z
      (no_video n (from + 0x10000) (goes_on (v n from seen heard bytes)) (goes_on (a n from seen heard bytes))
      (drop (turn_size form (v n from seen heard bytes) (a n from seen heard bytes)) bytes) (ap goes_on z)))

  pub no_audio : (n from : ℕ) (seen heard : Bool) (bytes : List ℕ) → heard ≡ false → (read_from form n from seen heard bytes).audio ≡ []
  no_audio zero from seen heard bytes e = ap (λ (r : Read). r.audio) (read_none from seen heard bytes)
  no_audio (suc n) from seen heard bytes e =
      let z : heard_in form from seen heard bytes ≡ [] = closed form (Audio 0) from (drop (chunk_size form (length (seen_in form from seen bytes))) bytes) heard e in
      by_cases n from seen heard bytes (λ r. r.audio ≡ []) refl
      (ap₂ (λ (l m : List ℕ). l ++ m) z
      (no_audio n (from + 0x10000) (goes_on (v n from seen heard bytes)) (goes_on (a n from seen heard bytes))
      (drop (turn_size form (v n from seen heard bytes) (a n from seen heard bytes)) bytes) (ap goes_on z)))

-- ---- a payload, and what its stream goes on with

-- a payload that is not whole is the last
abbrev pub Joins : List ℕ → List ℕ → Type 0
Joins payload more = (goes_on payload ≡ true) ⊎ (more ≡ [])

module _ (payload more : List ℕ) (few : length payload ≤ 0x10000) (joins : Joins payload more) where
  pub first_part : take 0x10000 (payload ++ more) ≡ payload
  first_part =
      ⊎_elim (λ e. take_at payload more 0x10000 (eqb-true (length payload) 0x10000 e))
      (λ e. ap (λ (m : List ℕ). take 0x10000 (payload ++ m)) e ∙ ap (take 0x10000) (append-nil payload) ∙ take_all 0x10000 payload few) joins

  pub later_part : drop 0x10000 (payload ++ more) ≡ more
  later_part =
      ⊎_elim (λ e. drop_at payload more 0x10000 (eqb-true (length payload) 0x10000 e))
      (λ e. ap (λ (m : List ℕ). drop 0x10000 (payload ++ m)) e ∙ ap (drop 0x10000) (append-nil payload) ∙ drop_of_length-le payload few ∙ sym e) joins

pub next_first : (form : Form) (track : Track) (from : ℕ) (payload more : List ℕ) → length payload ≤ 0x10000 → Joins payload more
    → next_of form track from (payload ++ more) ≡ next_of form track from payload
unfolding next_of
next_first form track from [] [] few joins = refl
next_first form track from [] (m ∷ more) few joins =
    ⊎_elim (λ (e : goes_on [] ≡ true). let z : ◌≡◌ {A = ℕ} 0 1 = cc in absurd (omega arith)) (λ (e : m ∷ more ≡ []). let z : ◌≡◌ {A = ℕ} 0 1 = cc in absurd (omega arith)) joins
next_first form track from (byte ∷ payload) more few joins =
    ap (chunk_of form track from) (first_part (byte ∷ payload) more few joins ∙ sym (take_all 0x10000 (byte ∷ payload) few))

-- ---- all turns

regroup : (x y z r : List ℕ) → x ++ (y ++ (z ++ r)) ≡ (x ++ (y ++ z)) ++ r
regroup x y z r = simp append_assoc

pub turns_none : (form : Form) (n from : ℕ) → turns_of form n from [] [] ≡ []
unfolding turns_of next_of
turns_none form zero from = refl
turns_none form (suc n) from = turns_none form n (from + 0x10000)

module _ (form : Form) (n from : ℕ) (v a more others : List ℕ) (fv : length v ≤ 0x10000) (fa : length a ≤ 0x10000) (jv : Joins v more) (ja : Joins a others) where
  pub turns_more : turns_of form (suc n) from (v ++ more) (a ++ others) ≡ next_of form Video from v ++ (next_of form (Audio 0) from a ++ turns_of form n (from + 0x10000) more others)
  unfolding turns_of
  turns_more = rw (next_first form Video from v more fv jv, next_first form (Audio 0) from a others fa ja, later_part v more fv jv, later_part a others fa ja)

pub joins : (form : Form) (n from : ℕ) (going heard : Bool) (bytes payload : List ℕ) → going ≡ goes_on payload → Joins payload (read_from form n from going heard bytes).video
joins form n from true heard bytes payload e = inl (sym e)
joins form n from false heard bytes payload e = inr (no_video form n from false heard bytes refl)

pub joins_audio : (form : Form) (n from : ℕ) (seen going : Bool) (bytes payload : List ℕ) → going ≡ goes_on payload → Joins payload (read_from form n from seen going bytes).audio
joins_audio form n from seen true bytes payload e = inl (sym e)
joins_audio form n from seen false bytes payload e = inr (no_audio form n from seen false bytes refl)

module _ (form : Form) where
  -- bytes begin with the turns of what is read
  pub read_stands : (n from : ℕ) (seen heard : Bool) (bytes : List ℕ)
      → bytes ≡ turns_of form n from (read_from form n from seen heard bytes).video (read_from form n from seen heard bytes).audio ++ drop (read_from form n from seen heard bytes).end bytes
  read_stands zero from seen heard bytes = rw (read_none form from seen heard bytes, turns_none form 0 from)
  read_stands (suc n) from seen heard bytes =
      let v = seen_in form from seen bytes in
      let a = heard_in form from seen heard bytes in
      let hv = held form Video from bytes seen in
      let rest = drop (chunk_size form (length v)) bytes in
      let ha = held form (Audio 0) from rest heard in
      let last = drop (turn_size form v a) bytes in
      let ih = read_stands n (from + 0x10000) (goes_on v) (goes_on a) last in
      let r = read_from form n (from + 0x10000) (goes_on v) (goes_on a) last in
      by_cases form n from seen heard bytes (λ r. bytes ≡ turns_of form (suc n) from r.video r.audio ++ drop r.end bytes)
      (ap (λ (l : List ℕ). l ++ bytes) (sym (turns_none form (suc n) from)))
      (hv.stands
      ∙ ap (λ (l : List ℕ). next_of form Video from v ++ l)
      (ha.stands
      ∙ ap (λ (l : List ℕ). next_of form (Audio 0) from a ++ l) (drop-drop (chunk_size form (length a)) (chunk_size form (length v)) bytes ∙ ih ∙ ap (λ (l : List ℕ). turns_of form n (from + 0x10000) r.video r.audio ++ l) (drop-drop r.end (turn_size form v a) bytes)))
      ∙ regroup (next_of form Video from v) (next_of form (Audio 0) from a) (turns_of form n (from + 0x10000) r.video r.audio) (drop (turn_size form v a + r.end) bytes)
      ∙ ap (λ (l : List ℕ). l ++ drop (turn_size form v a + r.end) bytes)
      (sym (turns_more form n from v a r.video r.audio hv.few ha.few (joins form n (from + 0x10000) (goes_on v) (goes_on a) last v refl) (joins_audio form n (from + 0x10000) (goes_on v) (goes_on a) last a refl))))

  -- no more than there are turns
  pub read_few : (n from : ℕ) (seen heard : Bool) (bytes : List ℕ)
      → (length (read_from form n from seen heard bytes).video ≤ n * 0x10000) × (length (read_from form n from seen heard bytes).audio ≤ n * 0x10000)
  read_few zero from seen heard bytes = rw (read_none form from seen heard bytes) (omega arith, omega arith)
  read_few (suc n) from seen heard bytes =
      let v = seen_in form from seen bytes in
      let a = heard_in form from seen heard bytes in
      let hv = (held form Video from bytes seen).few in
      let ha = (held form (Audio 0) from (drop (chunk_size form (length v)) bytes) heard).few in
      let last = drop (turn_size form v a) bytes in
      let r = read_from form n (from + 0x10000) (goes_on v) (goes_on a) last in
      let ih = read_few n (from + 0x10000) (goes_on v) (goes_on a) last in
      by_cases form n from seen heard bytes (λ r. (length r.video ≤ suc n * 0x10000) × (length r.audio ≤ suc n * 0x10000)) (omega arith, omega arith)
      (omega (arith, length-append v r.video, ih.0), omega (arith, length-append a r.audio, ih.1))

pub empty : (bytes : List ℕ) → length bytes ≤ 0 → bytes ≡ []
empty [] h = refl
empty (byte ∷ bytes) h = absurd (omega arith)

-- as many turns as there are, or more
pub turns_same : (form : Form) (n m from : ℕ) (video audio : List ℕ) → length video ≤ n * 0x10000 → length audio ≤ n * 0x10000 → length video ≤ m * 0x10000 → length audio ≤ m * 0x10000
    → turns_of form n from video audio ≡ turns_of form m from video audio
unfolding turns_of
turns_same form zero m from video audio h k i j = rw (empty video (omega arith), empty audio (omega arith)) (sym (turns_none form m from))
turns_same form (suc n) zero from video audio h k i j = rw (empty video (omega arith), empty audio (omega arith)) (turns_none form (suc n) from)
turns_same form (suc n) (suc m) from video audio h k i j =
    ap (λ (l : List ℕ). next_of form Video from video ++ (next_of form (Audio 0) from audio ++ l))
    (turns_same form n m (from + 0x10000) (drop 0x10000 video) (drop 0x10000 audio) (rw length-drop (omega arith)) (rw length-drop (omega arith)) (rw length-drop (omega arith)) (rw length-drop (omega arith)))

-- bytes begin with the chunks of the streams that are read in them
pub read_whole : (form : Form) (audio : Bool) (bytes : List ℕ)
    → bytes ≡ chunks_of form (read_in form audio bytes).video (read_in form audio bytes).audio ++ drop (read_in form audio bytes).end bytes
read_whole form audio bytes =
    let r = read_in form audio bytes in
    let n = length bytes + 1 in
    let few = read_few form n 0 true audio bytes in
    read_stands form n 0 true audio bytes
    ∙ ap (λ (l : List ℕ). l ++ drop r.end bytes)
    (turns_same form n (length r.video + length r.audio) 0 r.video r.audio few.0 few.1 (omega arith) (omega arith))
