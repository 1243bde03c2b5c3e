-- A piece that follows a clear row of a payload is made clear as it is in the whole payload. Assumes nothing.
use mathlib.Core.Path.{◌≡◌, refl, sym, ap, ap₂, ◌∙◌}
use mathlib.Core.List.{List, ◌++◌}
use Prim.Native.Nat.{ℕ, zero, suc, ◌+◌, ◌*◌, ◌-◌, ◌/◌, ◌%◌, ◌≤◌, ◌<◌}
use native.Mathlib.Omega.{arith}
use lib.ListN.{length, take, drop, length-drop, length-take}
use lib.Seq.{ext_get_or, get_or-take, get_or-drop, length-take-le}
use lib.Bits.{bit_xor}
use Rattle.laws.specs.Lists.{at}
use Rattle.laws.proofs.SpliceLaws.{at_left, at_right}
use Rattle.key.specs.KeyTable.{keys_of}
use Rattle.mask.specs.Audio.{masked_audio}
use Rattle.mask.specs.Rows.{clear_after, cleared_on, xored_rows}
use Rattle.mask.specs.Video.{tail, clear, unmasked_video}
use Rattle.mask.proofs.AudioLaws.{audio_after_lem, rows_length, rows_at_lem}
use Rattle.mask.proofs.OnLaws.{on_length, on_at_lem}
use Rattle.mask.proofs.UndoLaws.{audio_at_lem}
use Rattle.unmasking.specs.declared.Mask.{Mask}
use Rattle.unmasking.specs.declared.Mask.TheVariants.{Clear, VideoMask, AudioMask}
use Rattle.unmasking.specs.Unmasking.{cleared_by}
use Rattle.payload_pieces.specs.Pieces.{cleared_after}
use Rattle.payload_pieces.proofs.PieceLaws.{Edge}
use Rattle.payload_pieces.proofs.BeginningLaws.{cleared_length, video_tail}

-- the n bytes at an edge k of a payload
module _ (number : ℕ) (s : List ℕ) (k n : ℕ) (edge : Edge k) (inside : k + n ≤ length s) where
  abbrev piece : List ℕ
  piece = take n (drop k s)

  piece_length : length piece ≡ n
  piece_length = length-take-le n (drop k s) (omega (arith, length-drop k s))

  piece_at_lem : (p : ℕ) → p < n → at piece p ≡ at s (k + p)
  piece_at_lem p h = get_or-take n (drop k s) p 0 h ∙ get_or-drop k s p 0

  -- bytes that are those of the whole
  as_whole : (y whole : List ℕ) → length y ≡ n → length whole ≡ length s → ((p : ℕ) → p < n → at y p ≡ at whole (k + p)) → y ≡ take n (drop k whole)
  as_whole y whole m l e =
      ext_get_or 0 y (take n (drop k whole)) (m ∙ sym (length-take-le n (drop k whole) (omega (arith, length-drop k whole))))
      (λ p h. let b : p < n = omega arith in e p b ∙ sym (get_or-take n (drop k whole) p 0 b ∙ get_or-drop k whole p 0))

  -- video, after the clear row before k, which is row j of the tail
  module _ (row : List ℕ) (has : length row ≡ 0x20) (last : (lane : ℕ) → lane < 0x20 → at row lane ≡ at (unmasked_video (keys_of number) s) (k - 0x20 + lane)) where
    abbrev v : List ℕ
    v = (keys_of number).v

    abbrev j : ℕ
    j = (k - 0x160) / 0x20

    place_of : k ≡ 0x160 + j * 0x20
    place_of = omega (arith, edge.far, edge.between)

    onward : (r lane : ℕ) → lane < 0x20 → r * 0x20 + lane < 0x20 + n → clear_after v (row ++ piece) r lane ≡ clear v s (j + r) lane
    unfolding clear_after clear
    onward zero lane h b =
        let z : j + 0 ≡ j = omega arith in
        let q : k - 0x20 + lane ≡ 0x140 + j * 0x20 + lane = omega (arith, place_of) in
        rw z
        (at_left row piece 0x20 lane has h ∙ last lane h ∙ ap (at (unmasked_video (keys_of number) s)) q
        ∙ video_tail (keys_of number) s (omega (arith, edge.far)) j lane h (omega (arith, place_of, edge.far)))
    onward (suc r) lane h b =
        let z : j + suc r ≡ suc (j + r) = omega arith in
        let w : suc r * 0x20 + lane - 0x20 ≡ r * 0x20 + lane = omega arith in
        let q : k + (r * 0x20 + lane) ≡ 0x140 + suc (j + r) * 0x20 + lane = omega (arith, place_of) in
        rw z
        (ap₂ (λ (x y : ℕ). bit_xor x (bit_xor y (at v lane)))
        (at_right row piece 0x20 (suc r * 0x20 + lane) has (omega arith) ∙ ap (at piece) w ∙ piece_at_lem (r * 0x20 + lane) (omega arith) ∙ ap (at s) q)
        (onward r lane h (omega arith)))

    pub video_onward : cleared_on v row piece ≡ take n (drop k (unmasked_video (keys_of number) s))
    video_onward =
        as_whole (cleared_on v row piece) (unmasked_video (keys_of number) s) (on_length v row piece has ∙ piece_length) (cleared_length number VideoMask s)
        (λ p h.
        let r = j + suc (p / 0x20) in
        let q : 0x140 + r * 0x20 + p % 0x20 ≡ k + p = omega (arith, place_of) in
        on_at_lem v row piece has p (omega (arith, piece_length)) ∙ onward (suc (p / 0x20)) (p % 0x20) (omega arith) (omega arith)
        ∙ sym (video_tail (keys_of number) s (omega (arith, edge.far)) r (p % 0x20) (omega arith) (omega (arith, place_of)))
        ∙ ap (at (unmasked_video (keys_of number) s)) q)

  pub audio_onward : xored_rows (keys_of number).a piece ≡ take n (drop k (masked_audio (keys_of number) s))
  audio_onward =
      let a = (keys_of number).a in
      as_whole (xored_rows a piece) (masked_audio (keys_of number) s) (rows_length a piece ∙ piece_length) (cleared_length number AudioMask s)
      (λ p h.
      let q : (k + p) % 0x20 ≡ p % 0x20 = omega (arith, edge.between) in
      rows_at_lem a piece p (omega (arith, piece_length)) ∙ ap (λ (z : ℕ). bit_xor z (at a (p % 0x20))) (piece_at_lem p h)
      ∙ sym (audio_at_lem (keys_of number) s (k + p) (omega arith) ∙ audio_after_lem a s (k + p) (omega (arith, edge.far)) ∙ rw q))

-- by its mask
pub clear_onward : (number : ℕ) (mask : Mask) (s : List ℕ) (k n : ℕ) → Edge k → k + n ≤ length s → (row : List ℕ) → length row ≡ 0x20
    → ((lane : ℕ) → lane < 0x20 → at row lane ≡ at (cleared_by number mask s) (k - 0x20 + lane))
    → cleared_after number mask row (take n (drop k s)) ≡ take n (drop k (cleared_by number mask s))
clear_onward number Clear s k n edge inside row has last = refl
clear_onward number VideoMask s k n edge inside row has last = video_onward number s k n edge inside row has last
clear_onward number AudioMask s k n edge inside row has last = audio_onward number s k n edge inside
