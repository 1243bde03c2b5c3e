-- The promises of specs/Promises.antt, each under its name. Two answers that are equal are nowhere apart, so D is 0 in every lane that shows it:
-- all of them in the tail's first row of a video payload, the even ones in that of an audio payload. Assumes nothing.
use mathlib.Core.Path.{◌≡◌, refl, sym, ap, ◌∙◌}
use mathlib.Core.Logic.Iff
use mathlib.Core.Logic.{⊎_elim}
use mathlib.Core.Bool.{cond}
use mathlib.Core.List.{List}
use Prim.Native.Nat.{ℕ, ◌+◌, ◌-◌, ◌/◌, ◌%◌, ◌<◌}
use native.Mathlib.Omega.{arith}
use lib.ListN.{length}
use lib.Bits.{bit_xor, xor_self}
use lib.Seq.{ext_get_or}
use borrow.Author.Tests.{lt-ltb, le-ltb, eq-eqb, ne_eqb}
use Rattle.laws.specs.Lists.{at}
use Rattle.laws.proofs.Side.{side}
use Rattle.laws.proofs.TabLaws.{tab_ext}
use Rattle.laws.proofs.XorLaws.{xor_none}
use Rattle.key.specs.KeyTable.{table_t, keys_of}
use Rattle.key.specs.declared.Keys.{Keys}
use Rattle.key.specs.CountingBits.{SameEvenLanes}
use Rattle.key.proofs.KeyBits.{same_keys, agree_of_even}
use Rattle.key.proofs.Promises.{EvenLanesTellTheBits, LanesBelow0x18HideBits40To47}
use Rattle.mask.specs.Audio.{audio_at, masked_audio}
use Rattle.mask.specs.Video.{clear, stored, stored_tail, xored_head, clear_tail, unmasked_video, masked_video}
use Rattle.mask.specs.Positions.{difference, video_differs, audio_differs, lanes_shown}
use Rattle.mask.specs.Promises as promised
use Rattle.mask.proofs.AudioLaws.{audio_before}
use Rattle.mask.proofs.UndoLaws.{audio_length, audio_twice, clear_stored, stored_clear, tail_length, head_length, head_twice}
use Rattle.mask.proofs.TwoKeyLaws.{audio_differs_lem, video-differs}

pub ShortVideoStays : promised.ShortVideoStays
unfolding unmasked_video
ShortVideoStays key payload h = rw (lt-ltb (length payload) 0x240 h)

pub VideoDiffersByD : promised.VideoDiffersByD
VideoDiffersByD key key' payload long p h = video-differs key key' payload long p h

pub AudioDiffersByD : promised.AudioDiffersByD
AudioDiffersByD key key' payload p h = audio_differs_lem key key' payload p h

pub ShortAudioStays : promised.ShortAudioStays
unfolding masked_audio
ShortAudioStays key payload h =
    sym (tab_ext (audio_at (keys_of key).a payload) (length payload) payload refl (λ p l. audio_before (keys_of key).a payload p (omega arith)))

-- ---- equal exactly when

-- equal answers are nowhere apart
nowhere : (x y : List ℕ) (p : ℕ) {d : ℕ} → x ≡ y → promised.apart x y p ≡ d → d ≡ 0
nowhere x y p e h = sym h ∙ ap (λ (z : List ℕ). bit_xor (at z p) (at y p)) e ∙ xor_self (at y p)

-- the tail's first row shows D in every lane of a video payload, and in the even lanes of an audio payload
video_shows : (key key' lane : ℕ) → lane < 0x20
    → cond (video_differs (0x140 + lane)) (difference key key' ((0x140 + lane) % 0x20)) 0 ≡ difference key key' lane
unfolding video_differs
video_shows key key' lane h =
    let r : (0x140 + lane - 0x140) / 0x20 ≡ 0 = omega arith in
    let l : (0x140 + lane) % 0x20 ≡ lane = omega arith in
    rw (le-ltb (0x140 + lane) 0x40 (omega arith), le-ltb (0x140 + lane) 0x140 (omega arith), r, l)

audio_shows : (key key' lane : ℕ) → lane < 0x20 → lane % 2 ≡ 0
    → cond (audio_differs (0x140 + lane)) (difference key key' ((0x140 + lane) % 0x20)) 0 ≡ difference key key' lane
unfolding audio_differs
audio_shows key key' lane h even =
    let l : (0x140 + lane) % 0x20 ≡ lane = omega arith in
    rw (le-ltb (0x140 + lane) 0x140 (omega arith), l, even)

pub VideoEqualExactlyWhenBitsAgree : promised.VideoEqualExactlyWhenBitsAgree
VideoEqualExactlyWhenBitsAgree key key' payload long = (
  λ e.
      agree_of_even key key'
      (λ lane l _.
      xor_none (at (table_t key) lane) (at (table_t key') lane)
      (nowhere (promised.video key payload) (promised.video key' payload) (0x140 + lane) e
      (video-differs key key' payload long (0x140 + lane) (omega arith) ∙ video_shows key key' lane (omega arith)))),
  λ a. ap (λ (keys : Keys). unmasked_video keys payload) (same_keys key key' a),
)

-- lanes that agree leave no difference where a payload of n bytes shows one
no_difference : (key key' n p : ℕ) → SameEvenLanes (lanes_shown n) key key' → p < n → cond (audio_differs p) (difference key key' (p % 0x20)) 0 ≡ 0
unfolding audio_differs
no_difference key key' n p same h =
    ⊎_elim (λ b. rw (lt-ltb p 0x140 b))
    (λ b.
    rw (le-ltb p 0x140 b)
    (⊎_elim
    (λ (even : p % 0x20 % 2 < 1).
    rw (eq-eqb (p % 0x20 % 2) 0 (omega arith))
    (ap (λ (z : ℕ). bit_xor z (at (table_t key') (p % 0x20))) (same (p % 0x20) (omega arith) (omega arith)) ∙ xor_self (at (table_t key') (p % 0x20))))
    (λ odd. rw (ne_eqb (p % 0x20 % 2) 0 (λ q. omega arith)))
    (side (p % 0x20 % 2) 1)))
    (side p 0x140)

pub AudioEqualExactlyWhenLanesAgree : promised.AudioEqualExactlyWhenLanesAgree
AudioEqualExactlyWhenLanesAgree key key' payload =
    let x = promised.audio key payload in
    let y = promised.audio key' payload in
    let n : length x ≡ length payload = audio_length (keys_of key) payload in (
      λ e lane l even.
          xor_none (at (table_t key) lane) (at (table_t key') lane)
          (nowhere x y (0x140 + lane) e (audio_differs_lem key key' payload (0x140 + lane) (omega arith) ∙ audio_shows key key' lane (omega arith) even)),
      λ same.
          ext_get_or 0 x y (n ∙ sym (audio_length (keys_of key') payload))
          (λ p h.
          let k : p < length payload = omega arith in
          xor_none (at x p) (at y p) (audio_differs_lem key key' payload p k ∙ no_difference key key' (length payload) p same k)),
    )

pub ClipEqualExactlyWhenBitsAgree : promised.ClipEqualExactlyWhenBitsAgree
ClipEqualExactlyWhenBitsAgree key key' payload long =
    Iff.trans (AudioEqualExactlyWhenLanesAgree key key' payload) (EvenLanesTellTheBits key key' (lanes_shown (length payload)) (omega arith))

pub ShorterClipHidesBits40To47 : promised.ShorterClipHidesBits40To47
ShorterClipHidesBits40To47 key key' payload short d =
    (AudioEqualExactlyWhenLanesAgree key key' payload).1 (λ lane l. LanesBelow0x18HideBits40To47 key key' d lane (omega arith))

pub AudioEqualExactlyWhenBitsAgree : promised.AudioEqualExactlyWhenBitsAgree
AudioEqualExactlyWhenBitsAgree key key' payload long = ClipEqualExactlyWhenBitsAgree key key' payload (omega arith)

pub OneAnswerWhereBitsAgree : promised.OneAnswerWhereBitsAgree
OneAnswerWhereBitsAgree key key' a payload = (
  ap (λ (keys : Keys). unmasked_video keys payload) (same_keys key key' a),
  ap (λ (keys : Keys). masked_video keys payload) (same_keys key key' a),
  ap (λ (keys : Keys). masked_audio keys payload) (same_keys key key' a),
)

-- ---- undone

module _ (keys : Keys) (payload : List ℕ) where
  unmask_mask : unmasked_video keys (masked_video keys payload) ≡ payload
  unfolding unmasked_video masked_video
  unmask_mask =
      let head = xored_head keys.t payload in
      ⊎_elim (λ b. rw (lt-ltb (length payload) 0x240 b, lt-ltb (length payload) 0x240 b))
      (λ b.
      let e : length (stored_tail keys.v head) ≡ length payload = tail_length (stored keys.v head) head ∙ head_length keys.t payload in
      rw (le-ltb (length payload) 0x240 b, le-ltb (length (stored_tail keys.v head)) 0x240 (omega arith), clear_stored keys.v head)
      (head_twice keys.t payload b))
      (side (length payload) 0x240)

  mask_unmask : masked_video keys (unmasked_video keys payload) ≡ payload
  unfolding unmasked_video masked_video
  mask_unmask =
      let plain = clear_tail keys.v payload in
      ⊎_elim (λ b. rw (lt-ltb (length payload) 0x240 b, lt-ltb (length payload) 0x240 b))
      (λ b.
      let e : length plain ≡ length payload = tail_length (clear keys.v payload) payload in
      let e' : length (xored_head keys.t plain) ≡ length plain = head_length keys.t plain in
      rw (le-ltb (length payload) 0x240 b, le-ltb (length (xored_head keys.t plain)) 0x240 (omega arith), head_twice keys.t plain (omega arith))
      (stored_clear keys.v payload))
      (side (length payload) 0x240)

pub VideoUndone : promised.VideoUndone
VideoUndone key payload = (unmask_mask (keys_of key) payload, mask_unmask (keys_of key) payload)

pub AudioUndone : promised.AudioUndone
AudioUndone key payload = audio_twice (keys_of key) payload
