-- How long turns are, and that streams are no longer than the bytes in which they are read. Assumes nothing.
use Prim.Native.Nat.{ℕ, zero, suc, ◌+◌, ◌-◌, ◌*◌, ◌/◌, ◌%◌, ◌≤◌, ◌<◌}
use mathlib.Core.Path.{◌≡◌, refl, sym, ap, ◌∙◌}
use mathlib.Core.List.{List, [], ◌∷◌, ◌++◌}
use mathlib.Core.Bool.{Bool, true, false, cond}
use mathlib.Core.Logic.{⊎_elim}
use native.Mathlib.Omega.{arith}
use lib.ListN.{length, take, drop, length-drop, length-append}
use lib.Seq.{take_all, length-take-le}
use lib.Dec.{eqb}
use Rattle.laws.proofs.Side.{side}
use Rattle.word.specs.Bytes.{padding}
use Rattle.turns.specs.declared.Track.{Track}
use Rattle.turns.specs.declared.Track.TheVariants.{Video, Audio}
use Rattle.turns.specs.declared.Form.{Form}
use Rattle.turns.specs.declared.Form.TheVariants.{Old, New}
use Rattle.turns.specs.Chunks.{shape_of, chunk_of, chunk_size}
use Rattle.turns.specs.Turns.{next_of, turns_of, chunks_of, stream_size, read_in}
use Rattle.turns.proofs.ChunkLaws.{chunk_length, size_none}
use Rattle.turns.proofs.TurnLaws.{size_holds}
use Rattle.turns.proofs.ReadLaws.{read_whole}

-- a whole payload needs no padding in either container
pub whole_is : (form : Form) → chunk_size form 0x10000 ≡ 0x10020
unfolding chunk_size shape_of
whole_is Old = refl
whole_is New = refl

pub size_few : (form : Form) (n : ℕ) → n ≤ 0x10000 → chunk_size form n ≤ n + 63
unfolding chunk_size shape_of
size_few Old n h = sizes (eqb n 0) where
  sizes : (t : Bool) → cond t 0 (28 + 0 + n + padding (28 + n)) ≤ n + 63
  sizes true = omega arith
  sizes false = omega arith
size_few New n h = sizes (eqb n 0) where
  sizes : (t : Bool) → cond t 0 (28 + 4 + n + padding n) ≤ n + 63
  sizes true = omega arith
  sizes false = omega arith

module _ (form : Form) where
  stream_more : (n : ℕ) → 0x10000 ≤ n → stream_size form n ≡ chunk_size form 0x10000 + stream_size form (n - 0x10000)
  unfolding stream_size
  stream_more n h =
      let q : n / 0x10000 ≡ suc ((n - 0x10000) / 0x10000) = omega arith in
      let r : n % 0x10000 ≡ (n - 0x10000) % 0x10000 = omega arith in
      rw (q, r, whole_is form) (omega arith)

  stream_last : (n : ℕ) → n < 0x10000 → stream_size form n ≡ chunk_size form n
  unfolding stream_size
  stream_last n h =
      let q : n / 0x10000 ≡ 0 = omega arith in
      let r : n % 0x10000 ≡ n = omega arith in
      rw (q, r) (omega arith)

  pub stream_none : stream_size form 0 ≡ 0
  stream_none = stream_last 0 (omega arith) ∙ size_none form

  pub stream_holds : (n : ℕ) → n ≤ stream_size form n
  unfolding stream_size
  stream_holds n = let l = size_holds form (n % 0x10000) in omega arith

  module _ (track : Track) (from : ℕ) where
    next_some : (all : List ℕ) → 0 < length all → length (chunk_of form track from (take 0x10000 all)) + stream_size form (length all - 0x10000) ≡ stream_size form (length all)
    next_some all some =
        ⊎_elim
        (λ (h : length all < 0x10000).
        let z : length all - 0x10000 ≡ 0 = omega arith in
        rw (take_all 0x10000 all (omega arith), chunk_length form track from all some, z, stream_none) (omega (arith, stream_last (length all) h)))
        (λ (h : 0x10000 ≤ length all).
        let l : length (take 0x10000 all) ≡ 0x10000 = length-take-le 0x10000 all h in
        let p : 0 < length (take 0x10000 all) = rw l (omega arith) in
        ap (λ (m : ℕ). m + stream_size form (length all - 0x10000)) (chunk_length form track from (take 0x10000 all) p ∙ ap (chunk_size form) l) ∙ sym (stream_more (length all) h))
        (side (length all) 0x10000)

    next_length : (bytes : List ℕ) → length (next_of form track from bytes) + stream_size form (length bytes - 0x10000) ≡ stream_size form (length bytes)
    unfolding next_of
    next_length [] = omega (arith, stream_none)
    next_length (byte ∷ bytes) = next_some (byte ∷ bytes) (omega arith)

  pub turns_length : (n from : ℕ) (video audio : List ℕ) → length video ≤ n * 0x10000 → length audio ≤ n * 0x10000
      → length (turns_of form n from video audio) ≡ stream_size form (length video) + stream_size form (length audio)
  unfolding turns_of
  turns_length zero from video audio h k =
      let v : length video ≡ 0 = omega arith in
      let a : length audio ≡ 0 = omega arith in
      rw (v, a, stream_none)
  turns_length (suc n) from video audio h k =
      let rest = turns_of form n (from + 0x10000) (drop 0x10000 video) (drop 0x10000 audio) in
      let ih = turns_length n (from + 0x10000) (drop 0x10000 video) (drop 0x10000 audio) (rw length-drop (omega arith)) (rw length-drop (omega arith)) in
      let lv = length-drop 0x10000 video in
      let la = length-drop 0x10000 audio in
      length-append (next_of form Video from video) (next_of form (Audio 0) from audio ++ rest)
      ∙ ap (λ (m : ℕ). length (next_of form Video from video) + m) (length-append (next_of form (Audio 0) from audio) rest)
      ∙ omega (arith, rw (lv, la) at ih, next_length Video from video, next_length (Audio 0) from audio)

  pub chunks_length : (video audio : List ℕ) → length (chunks_of form video audio) ≡ stream_size form (length video) + stream_size form (length audio)
  chunks_length video audio = turns_length (length video + length audio) 0 video audio (omega arith) (omega arith)

  -- both streams lie within the bytes
  pub read_fits : (audio : Bool) (bytes : List ℕ) → length (read_in form audio bytes).video + length (read_in form audio bytes).audio ≤ length bytes
  read_fits audio bytes =
      let r = read_in form audio bytes in
      omega (arith, ap length (read_whole form audio bytes), length-append (chunks_of form r.video r.audio) (drop r.end bytes), chunks_length r.video r.audio, stream_holds (length r.video), stream_holds (length r.audio))
