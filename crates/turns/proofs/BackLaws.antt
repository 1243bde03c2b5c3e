-- Turns that are written are read back: each chunk is found where it stands, and none where another does. Assumes nothing.
use Prim.Native.Nat.{ℕ, zero, suc, ◌+◌, ◌-◌, ◌*◌, ◌≤◌, ◌<◌}
use mathlib.Core.Path.{◌≡◌, refl, sym, ap, ap₂, ◌∙◌}
use mathlib.Core.List.{List, [], ◌∷◌, ◌++◌, append_assoc}
use mathlib.Core.Bool.{Bool, true, false, ◌||◌, ◌&&◌}
use mathlib.Core.Logic.{⊎_elim}
use native.Mathlib.Omega.{arith}
use lib.ListN.{length, take, drop, length-take, length-drop, length-append, length-replicate, take-append-drop, drop_of_length-le}
use lib.Seq.{drop-drop, drop_at, length-take-le}
use lib.Dec.{ltb}
use borrow.Author.Tests.{le-ltb, eq-eqb}
use Rattle.laws.proofs.Side.{side}
use Rattle.word.specs.Numbers.{be16, be32}
use Rattle.part.specs.Parts.{part_at}
use Rattle.signature.specs.Signatures.{same_bytes, stands_at}
use Rattle.word.specs.Bytes.{bytes32, zeros, padding}
use Rattle.word.proofs.NumberLaws.{whole32}
use Rattle.turns.specs.declared.Track.{Track}
use Rattle.turns.specs.declared.Track.TheVariants.{Video, Audio}
use Rattle.turns.specs.declared.Form.{Form}
use Rattle.turns.specs.declared.Form.TheVariants.{Old, New}
use Rattle.turns.specs.declared.Shape.{Shape}
use Rattle.turns.specs.Chunks.{letters_in, shape_of, head_by, laid_by, chunk_of, chunk_size, len_in, gap_of, inside_of, is_end, held_by, payload_in}
use Rattle.turns.specs.Turns.{next_of, turns_of, chunks_of, Read, goes_on, seen_in, heard_in, turn_size, with_turn, read_from, read_in}
use Rattle.turns.proofs.FrontLaws.{front, stands_front, front_append, front_self}
use Rattle.turns.proofs.ChunkLaws.{gap_is, head_length, chunk_length, size_none, no_stand, all_there}
use Rattle.turns.proofs.TurnLaws.{read_over}
use Rattle.turns.proofs.ReadLaws.{read_none, turns_none, turns_same, empty}
use Rattle.turns.proofs.SizeLaws.{stream_holds, chunks_length}
use Rattle.turns.proofs.PayloadLaws.{part_between}

-- bytes that begin with no chunk
abbrev pub NoChunk : Form → List ℕ → Type 0
NoChunk form rest = (track : Track) (from : ℕ) → payload_in form track from true rest ≡ []

-- no payload of a stream is read as its end
abbrev pub NoEnd : Form → List ℕ → Type 0
NoEnd form stream = (n : ℕ) → is_end form (take 0x10000 (drop (n * 0x10000) stream)) ≡ false

-- what is read: both streams, and the size of their chunks
abbrev pub Gives : List ℕ → List ℕ → ℕ → Read → Type 0
Gives video sound size read = (read.video ≡ video) × (read.audio ≡ sound) × (read.end ≡ size)

-- ---- a chunk

len_back : (form : Form) (track : Track) (from : ℕ) (payload more : List ℕ) → length payload ≤ 0x10000 → len_in form (chunk_of form track from payload ++ more) ≡ length payload
unfolding chunk_of shape_of head_by
len_back Old track from payload more h =
    let n = length payload in
    let size : be32 (chunk_of Old track from payload ++ more) 4 ≡ 0x18 + n = whole32 (0x18 + n) (omega arith) in
    ap (λ (k : ℕ). k - 0x18) size ∙ omega arith
len_back New track from payload more h =
    let n = length payload in
    let foot : be16 (chunk_of New track from payload ++ more) 10 ≡ padding n = omega arith in
    let size : be32 (chunk_of New track from payload ++ more) 4 ≡ 0x18 + n + padding n = whole32 (0x18 + n + padding n) (omega arith) in
    ap₂ (λ (k m : ℕ). k - 0x18 - m) size foot ∙ omega arith

module _ (form : Form) (track : Track) (from : ℕ) (payload more : List ℕ) (few : length payload ≤ 0x10000) where
  abbrev shape : Shape
  shape = shape_of form track from (length payload)

  abbrev bytes : List ℕ
  bytes = chunk_of form track from payload ++ more

  pieces : bytes ≡ (head_by shape ++ zeros shape.gap) ++ (payload ++ (zeros shape.pads ++ more))
  unfolding chunk_of
  pieces = simp append_assoc

  inside_back : inside_of form bytes ≡ payload
  inside_back =
      let before : length (head_by shape ++ zeros shape.gap) ≡ 28 + gap_of form =
      length-append (head_by shape) (zeros shape.gap) ∙ ap₂ (λ (m k : ℕ). m + k) (head_length shape) (length-replicate shape.gap 0 ∙ gap_is form track from (length payload)) in
      ap (part_at bytes (28 + gap_of form)) (len_back form track from payload more few)
      ∙ ap (λ (l : List ℕ). part_at l (28 + gap_of form) (length payload)) pieces
      ∙ part_between (head_by shape ++ zeros shape.gap) payload (zeros shape.pads ++ more) (28 + gap_of form) (length payload) before refl

  chunk_back : is_end form payload ≡ false → payload_in form track from true bytes ≡ payload
  unfolding payload_in
  chunk_back e =
      ap (λ (l : List ℕ). held_by form track from l bytes) inside_back
      ∙ all_there payload (ltb 0x10000 (length payload)) (stands_at (chunk_of form track from payload) bytes 0) (is_end form payload) (le-ltb 0x10000 (length payload) few)
      (stands_front (chunk_of form track from payload) bytes 0 ∙ front_self (chunk_of form track from payload) more) e

-- ---- other letters

letters_are : (form : Form) (track : Track) (from n : ℕ) → (shape_of form track from n).letters ≡ letters_in form track
unfolding shape_of
letters_are Old track from n = refl
letters_are New track from n = refl

-- where a chunk's letters do not stand, it does not
module _ (form : Form) (track : Track) (from : ℕ) (bytes : List ℕ) (others : front (bytes32 (letters_in form track)) bytes ≡ false) where
  stands_not : (payload : List ℕ) → stands_at (chunk_of form track from payload) bytes 0 ≡ false
  unfolding chunk_of head_by
  stands_not payload =
      let shape = shape_of form track from (length payload) in
      stands_front (laid_by shape payload) bytes 0 ∙ front_append (bytes32 shape.letters) (drop 4 (laid_by shape payload)) bytes
      ∙ ap (λ (t : Bool). t && front (drop 4 (laid_by shape payload)) (drop 4 bytes))
      (ap (λ (letters : ℕ). front (bytes32 letters) bytes) (letters_are form track from (length payload)) ∙ others)

  pub other_letters : payload_in form track from true bytes ≡ []
  unfolding payload_in
  other_letters =
      let payload = inside_of form bytes in
      no_stand payload (ltb 0x10000 (length payload)) (stands_at (chunk_of form track from payload) bytes 0) (is_end form payload) (stands_not payload)

pub video_letters : (form : Form) (number from : ℕ) (payload more : List ℕ) → front (bytes32 (letters_in form (Audio number))) (chunk_of form Video from payload ++ more) ≡ false
unfolding chunk_of shape_of head_by same_bytes
video_letters Old number from payload more = refl
video_letters New number from payload more = refl

pub audio_letters : (form : Form) (number from : ℕ) (payload more : List ℕ) → front (bytes32 (letters_in form Video)) (chunk_of form (Audio number) from payload ++ more) ≡ false
unfolding chunk_of shape_of head_by same_bytes
audio_letters Old number from payload more = refl
audio_letters New number from payload more = refl

-- ---- the next payload of a stream

taken_few : (n : ℕ) (stream : List ℕ) → length (take n stream) ≤ n
taken_few n stream = omega (arith, length-take n stream)

taken_some : (n : ℕ) (stream : List ℕ) → 0 < n → 0 < length stream → 0 < length (take n stream)
taken_some n stream h k = omega (arith, length-take n stream)

-- where the stream is over, no chunk of it stands
pub next_back : (form : Form) (track : Track) (from : ℕ) (going : Bool) (stream more : List ℕ) → (going ≡ false → stream ≡ []) → is_end form (take 0x10000 stream) ≡ false
    → (stream ≡ [] → payload_in form track from true more ≡ []) → payload_in form track from going (next_of form track from stream ++ more) ≡ take 0x10000 stream
unfolding next_of payload_in
next_back form track from true [] more over goes none = none refl
next_back form track from false [] more over goes none = refl
next_back form track from true (byte ∷ stream) more over goes none =
    chunk_back form track from (take 0x10000 (byte ∷ stream)) more (taken_few 0x10000 (byte ∷ stream)) goes
next_back form track from false (byte ∷ stream) more over goes none = let z : ◌≡◌ {A = List ℕ} (byte ∷ stream) [] = over refl in let y : ◌≡◌ {A = ℕ} 0 1 = cc in absurd (omega arith)

pub next_size : (form : Form) (track : Track) (from : ℕ) (stream : List ℕ) → length (next_of form track from stream) ≡ chunk_size form (length (take 0x10000 stream))
unfolding next_of
next_size form track from [] = sym (size_none form)
next_size form track from (byte ∷ stream) = chunk_length form track from (take 0x10000 (byte ∷ stream)) (taken_some 0x10000 (byte ∷ stream) (omega arith) (omega arith))

later_goes : (form : Form) (stream : List ℕ) → NoEnd form stream → NoEnd form (drop 0x10000 stream)
later_goes form stream goes n =
    let e : 0x10000 + n * 0x10000 ≡ suc n * 0x10000 = omega arith in
    ap (λ (l : List ℕ). is_end form (take 0x10000 l)) (drop-drop (n * 0x10000) 0x10000 stream) ∙ ap (λ (k : ℕ). is_end form (take 0x10000 (drop k stream))) e ∙ goes (suc n)

-- a stream that does not go on is over
pub over_later : (stream : List ℕ) → goes_on (take 0x10000 stream) ≡ false → drop 0x10000 stream ≡ []
over_later stream e =
    ⊎_elim (λ (h : length stream < 0x10000). drop_of_length-le stream {i = 0x10000} (omega arith))
    (λ (h : 0x10000 ≤ length stream).
    let t : goes_on (take 0x10000 stream) ≡ true = eq-eqb (length (take 0x10000 stream)) 0x10000 (length-take-le 0x10000 stream h) in
    let z : ◌≡◌ {A = ℕ} 0 1 = cc in
    absurd (omega arith)) (side (length stream) 0x10000)

-- ---- a turn

-- an audio that is over, where turns of the video go on
no_audio_there : (form : Form) (n from at : ℕ) (video rest : List ℕ) → NoChunk form rest → payload_in form (Audio 0) from true (turns_of form n at video [] ++ rest) ≡ []
unfolding turns_of next_of
no_audio_there form zero from at video rest none = none (Audio 0) from
no_audio_there form (suc n) from at [] rest none = rw (turns_none form n (at + 0x10000)) (none (Audio 0) from)
no_audio_there form (suc n) from at (byte ∷ video) rest none =
    let chunk = chunk_of form Video at (take 0x10000 (byte ∷ video)) in
    let later = turns_of form n (at + 0x10000) (drop 0x10000 (byte ∷ video)) [] in
    ap (payload_in form (Audio 0) from true) (append_assoc chunk later rest)
    ∙ other_letters form (Audio 0) from (chunk ++ (later ++ rest)) (video_letters form 0 at (take 0x10000 (byte ∷ video)) (later ++ rest))

-- a video that is over, where the audio goes on
no_video_there : (form : Form) (n from : ℕ) (video sound rest : List ℕ) → NoChunk form rest → video ≡ []
    → payload_in form Video from true (next_of form (Audio 0) from sound ++ (turns_of form n (from + 0x10000) (drop 0x10000 video) (drop 0x10000 sound) ++ rest)) ≡ []
unfolding next_of
no_video_there form n from video [] rest none e = rw (e, turns_none form n (from + 0x10000)) (none Video from)
no_video_there form n from video (byte ∷ sound) rest none e =
    let payload = take 0x10000 (byte ∷ sound) in
    let more = turns_of form n (from + 0x10000) (drop 0x10000 video) (drop 0x10000 (byte ∷ sound)) ++ rest in
    other_letters form Video from (chunk_of form (Audio 0) from payload ++ more) (audio_letters form 0 from payload more)

module _ (form : Form) (n from : ℕ) (seen heard : Bool) (video sound rest : List ℕ) (sees : seen ≡ false → video ≡ []) (hears : heard ≡ false → sound ≡ [])
    (video_goes : NoEnd form video) (sound-goes : NoEnd form sound) (none : NoChunk form rest) where
  abbrev first : List ℕ
  first = next_of form Video from video

  abbrev second : List ℕ
  second = next_of form (Audio 0) from sound

  abbrev later : List ℕ
  later = turns_of form n (from + 0x10000) (drop 0x10000 video) (drop 0x10000 sound)

  abbrev turns : List ℕ
  turns = first ++ (second ++ (later ++ rest))

  abbrev v : List ℕ
  v = take 0x10000 video

  abbrev a : List ℕ
  a = take 0x10000 sound

  seen_back : seen_in form from seen turns ≡ v
  seen_back = next_back form Video from seen video (second ++ (later ++ rest)) sees (video_goes 0) (no_video_there form n from video sound rest none)

  behind_video : drop (chunk_size form (length v)) turns ≡ second ++ (later ++ rest)
  behind_video = drop_at first (second ++ (later ++ rest)) (chunk_size form (length v)) (next_size form Video from video)

  heard_back : heard_in form from seen heard turns ≡ a
  heard_back =
      ap (λ (l : List ℕ). payload_in form (Audio 0) from heard (drop (chunk_size form (length l)) turns)) seen_back ∙ ap (payload_in form (Audio 0) from heard) behind_video
      ∙ next_back form (Audio 0) from heard sound (later ++ rest) hears (sound-goes 0)
      (λ e. ap (λ (l : List ℕ). payload_in form (Audio 0) from true (turns_of form n (from + 0x10000) (drop 0x10000 video) (drop 0x10000 l) ++ rest)) e
      ∙ no_audio_there form n from (from + 0x10000) (drop 0x10000 video) rest none)

  behind_turn : drop (turn_size form v a) turns ≡ later ++ rest
  behind_turn =
      sym (drop-drop (chunk_size form (length a)) (chunk_size form (length v)) turns) ∙ ap (drop (chunk_size form (length a))) behind_video
      ∙ drop_at second (later ++ rest) (chunk_size form (length a)) (next_size form (Audio 0) from sound)

  turn_back : (seen || heard) ≡ true → read_from form (suc n) from seen heard turns ≡ with_turn form v a (read_from form n (from + 0x10000) (goes_on v) (goes_on a) (later ++ rest))
  unfolding read_from
  turn_back e = rw (e, heard_back, seen_back, behind_turn)

  abbrev After : Type 0
  After = Gives (drop 0x10000 video) (drop 0x10000 sound) (length later) (read_from form n (from + 0x10000) (goes_on v) (goes_on a) (later ++ rest))

  abbrev Whole : Type 0
  Whole = Gives video sound (length (turns_of form (suc n) from video sound)) (read_from form (suc n) from seen heard (turns_of form (suc n) from video sound ++ rest))

  turn_gives : (seen || heard) ≡ true → After → Whole
  unfolding turns_of
  turn_gives e after =
      let grouped : (first ++ (second ++ later)) ++ rest ≡ turns = simp append_assoc in
      let size : turn_size form v a + length later ≡ length (first ++ (second ++ later)) =
      omega (arith, length-append first (second ++ later), length-append second later, next_size form Video from video, next_size form (Audio 0) from sound) in
      rw (grouped, turn_back e) (
        ap (λ (l : List ℕ). v ++ l) after.0 ∙ take-append-drop 0x10000 video,
        ap (λ (l : List ℕ). a ++ l) after.1 ∙ take-append-drop 0x10000 sound,
        ap (λ (k : ℕ). turn_size form v a + k) after.2 ∙ size,
      )

  none_gives : seen ≡ false → heard ≡ false → Whole
  none_gives e f =
      rw (sees e, hears f, turns_none form (suc n) from, e, f, read_over form false rest (suc n) from false false rest refl) (refl, refl, refl)

  gives : (t u : Bool) → seen ≡ t → heard ≡ u → After → Whole
  gives true u e f after = turn_gives (rw e) after
  gives false true e f after = turn_gives (rw (e, f)) after
  gives false false e f after = none_gives e f

-- ---- all turns

turns_back : (form : Form) (n from : ℕ) (seen heard : Bool) (video sound rest : List ℕ) → (seen ≡ false → video ≡ []) → (heard ≡ false → sound ≡ [])
    → length video ≤ n * 0x10000 → length sound ≤ n * 0x10000 → NoEnd form video → NoEnd form sound → NoChunk form rest
    → Gives video sound (length (turns_of form n from video sound)) (read_from form n from seen heard (turns_of form n from video sound ++ rest))
turns_back form zero from seen heard video sound rest sees hears few few' goes goes' none =
    let v : video ≡ [] = empty video (omega arith) in
    let a : sound ≡ [] = empty sound (omega arith) in
    rw (v, a, turns_none form 0 from, read_none form from seen heard rest) (refl, refl, refl)
turns_back form (suc n) from seen heard video sound rest sees hears few few' goes goes' none =
    gives form n from seen heard video sound rest sees hears goes goes' none seen heard refl refl
    (turns_back form n (from + 0x10000) (goes_on (take 0x10000 video)) (goes_on (take 0x10000 sound)) (drop 0x10000 video) (drop 0x10000 sound) rest (over_later video) (over_later sound)
    (rw length-drop (omega arith)) (rw length-drop (omega arith)) (later_goes form video goes) (later_goes form sound goes') none)

module _ (form : Form) (audio : Bool) (video sound rest : List ℕ) (hears : audio ≡ false → sound ≡ []) (goes : NoEnd form video) (goes' : NoEnd form sound)
    (none : NoChunk form rest) where
  -- as many turns as are looked for
  read_by : (m n : ℕ) → length video ≤ m * 0x10000 → length sound ≤ m * 0x10000 → length video ≤ n * 0x10000 → length sound ≤ n * 0x10000
      → Gives video sound (length (turns_of form m 0 video sound)) (read_from form n 0 true audio (turns_of form m 0 video sound ++ rest))
  read_by m n h k i j =
      let over : true ≡ false → video ≡ [] = λ e. let z : ◌≡◌ {A = ℕ} 0 1 = cc in absurd (omega arith) in
      rw (turns_same form m n 0 video sound h k i j) (turns_back form n 0 true audio video sound rest over hears i j goes goes' none)

  pub read_back : Gives video sound (length (chunks_of form video sound)) (read_in form audio (chunks_of form video sound ++ rest))
  read_back =
      let l : length video + length sound ≤ length (chunks_of form video sound ++ rest) =
      omega (arith, length-append (chunks_of form video sound) rest, chunks_length form video sound, stream_holds form (length video), stream_holds form (length sound)) in
      read_by (length video + length sound) (length (chunks_of form video sound ++ rest) + 1) (omega arith) (omega arith) (omega arith) (omega arith)
