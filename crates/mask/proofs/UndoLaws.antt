-- What each pass over a payload does is undone: a tail is stored and made clear again, either way round, and the head is XORed twice.
-- Assumes nothing.
use mathlib.Core.Path.{◌≡◌, sym, ap, ap₂, ◌∙◌}
use mathlib.Core.Logic.{⊎_elim}
use mathlib.Core.List.{List}
use Prim.Native.Nat.{ℕ, zero, suc, ◌+◌, ◌*◌, ◌-◌, ◌/◌, ◌%◌, ◌≤◌, ◌<◌}
use native.Mathlib.Omega.{arith}
use lib.ListN.{length}
use lib.Bits.{bit_xor}
use borrow.Author.Tests.{lt-ltb, le-ltb}
use Rattle.laws.specs.Lists.{at}
use Rattle.laws.proofs.Side.{side}
use Rattle.laws.proofs.TabLaws.{tab_length, tab_at, tab_ext}
use Rattle.laws.proofs.XorLaws.{xor_undo}
use Rattle.mask.specs.Audio.{audio_at, masked_audio}
use Rattle.mask.specs.Video.{tail, clear, stored, with_tail_at, with_tail, clear_tail, stored_tail, head_mask, xored_head_at, xored_head, unmasked_video}
use Rattle.mask.proofs.AudioLaws.{audio_before, audio_after_lem}
use Rattle.mask.proofs.TailLaws.{tail_before, tail_in}
use Rattle.mask.proofs.HeadLaws.{head_before, head_after, head_in}
use Rattle.key.specs.declared.Keys.{Keys}

-- ---- audio

pub audio_at_lem : (keys : Keys) (s : List ℕ) (p : ℕ) → p < length s → at (masked_audio keys s) p ≡ audio_at keys.a s p
unfolding masked_audio
audio_at_lem keys s p h = tab_at (audio_at keys.a s) (length s) p h

pub audio_length : (keys : Keys) (s : List ℕ) → length (masked_audio keys s) ≡ length s
unfolding masked_audio
audio_length keys s = tab_length (audio_at keys.a s) (length s)

pub audio_twice : (keys : Keys) (s : List ℕ) → masked_audio keys (masked_audio keys s) ≡ s
unfolding masked_audio
audio_twice keys s =
    let m = masked_audio keys s in
    let a = keys.a in
    sym
    (tab_ext (audio_at a m) (length m) s (sym (audio_length keys s))
    (λ p h.
    let k : p < length s = omega (arith, audio_length keys s) in
    ⊎_elim (λ b. audio_before a s p b ∙ sym (audio_at_lem keys s p k) ∙ audio_before a m p b)
    (λ b.
    sym
    (audio_after_lem a m p b ∙ ap (λ (z : ℕ). bit_xor z (at a (p % 0x20))) (audio_at_lem keys s p k ∙ audio_after_lem a s p b)
    ∙ xor_undo (at s p) (at a (p % 0x20))))
    (side p 0x140)))

-- ---- the tail

module _ (row : ℕ → ℕ → ℕ) (s : List ℕ) where
  pub tail_length : length (with_tail row s) ≡ length s
  unfolding with_tail
  tail_length = tab_length (with_tail_at row s) (length s)

  pub tail_at : (p : ℕ) → p < length s → at (with_tail row s) p ≡ with_tail_at row s p
  unfolding with_tail
  tail_at p h = tab_at (with_tail_at row s) (length s) p h

  pub tail_of : (r lane : ℕ) → lane < 0x20 → 0x140 + r * 0x20 + lane < length s → tail (with_tail row s) r lane ≡ row r lane
  tail_of r lane h k = tail_at (0x140 + r * 0x20 + lane) k ∙ tail_in row s r lane h

-- another tail, and then the first one again
tail_back : (row row' : ℕ → ℕ → ℕ) (s : List ℕ)
    → ((r lane : ℕ) → lane < 0x20 → 0x140 + r * 0x20 + lane < length s → row r lane ≡ tail s r lane)
    → with_tail row (with_tail row' s) ≡ s
unfolding with_tail
tail_back row row' s back =
    let u = with_tail row' s in
    sym
    (tab_ext (with_tail_at row u) (length u) s (sym (tail_length row' s))
    (λ p h.
    let k : p < length s = omega (arith, tail_length row' s) in
    ⊎_elim (λ b. tail_before row' s p b ∙ sym (tail_at row' s p k) ∙ tail_before row u p b)
    (λ b.
    let q : 0x140 + (p - 0x140) / 0x20 * 0x20 + p % 0x20 ≡ p = omega arith in
    ap (at s) (sym q) ∙ sym (back ((p - 0x140) / 0x20) (p % 0x20) (omega arith) (omega arith))
    ∙ sym (tail_in row u ((p - 0x140) / 0x20) (p % 0x20) (omega arith)) ∙ ap (with_tail_at row u) q)
    (side p 0x140)))

module _ (v s : List ℕ) where
  -- the clear rows of a stored tail are the rows that were stored
  clear_of_stored : (r lane : ℕ) → lane < 0x20 → 0x140 + r * 0x20 + lane < length s → clear v (stored_tail v s) r lane ≡ tail s r lane
  unfolding clear stored
  clear_of_stored zero lane h k =
      ap (λ (z : ℕ). bit_xor z (at v lane)) (tail_of (stored v s) s 0 lane h k) ∙ xor_undo (tail s 0 lane) (at v lane)
  clear_of_stored (suc r) lane h k =
      ap₂ (λ (y z : ℕ). bit_xor y (bit_xor z (at v lane))) (tail_of (stored v s) s (suc r) lane h k) (clear_of_stored r lane h (omega arith))
      ∙ xor_undo (tail s (suc r) lane) (bit_xor (tail s r lane) (at v lane))

  -- the stored rows of a clear tail are the rows that were made clear
  stored_of_clear : (r lane : ℕ) → lane < 0x20 → 0x140 + r * 0x20 + lane < length s → stored v (clear_tail v s) r lane ≡ tail s r lane
  unfolding clear stored
  stored_of_clear zero lane h k =
      ap (λ (z : ℕ). bit_xor z (at v lane)) (tail_of (clear v s) s 0 lane h k) ∙ xor_undo (tail s 0 lane) (at v lane)
  stored_of_clear (suc r) lane h k =
      ap₂ (λ (y z : ℕ). bit_xor y (bit_xor z (at v lane))) (tail_of (clear v s) s (suc r) lane h k) (tail_of (clear v s) s r lane h (omega arith))
      ∙ xor_undo (tail s (suc r) lane) (bit_xor (clear v s r lane) (at v lane))

  pub clear_stored : clear_tail v (stored_tail v s) ≡ s
  clear_stored = tail_back (clear v (stored_tail v s)) (stored v s) s clear_of_stored

  pub stored_clear : stored_tail v (clear_tail v s) ≡ s
  stored_clear = tail_back (stored v (clear_tail v s)) (clear v s) s stored_of_clear

-- ---- the head

module _ (t s : List ℕ) where
  pub head_at : (p : ℕ) → p < length s → at (xored_head t s) p ≡ xored_head_at t s p
  unfolding xored_head
  head_at p h = tab_at (xored_head_at t s) (length s) p h

  pub head_length : length (xored_head t s) ≡ length s
  unfolding xored_head
  head_length = tab_length (xored_head_at t s) (length s)

-- a payload that is unmasked keeps its length
pub video_length : (keys : Keys) (s : List ℕ) → length (unmasked_video keys s) ≡ length s
unfolding unmasked_video
video_length keys s =
    ⊎_elim (λ b. rw (lt-ltb (length s) 0x240 b))
    (λ b. rw (le-ltb (length s) 0x240 b) (simp (head_length, tail_length)))
    (side (length s) 0x240)

module _ (t s : List ℕ) (long : 0x240 ≤ length s) where
  -- the tail stays, and so do the masks made of it
  tail_stays : (r lane : ℕ) → r < 8 → lane < 0x20 → tail (xored_head t s) r lane ≡ tail s r lane
  tail_stays r lane l h = head_at t s (0x140 + r * 0x20 + lane) (omega arith) ∙ sym (head_after t s (0x140 + r * 0x20 + lane) (omega arith))

  mask_stays : (r lane : ℕ) → r < 8 → lane < 0x20 → head_mask t (xored_head t s) r lane ≡ head_mask t s r lane
  unfolding head_mask
  mask_stays zero lane l h = ap (λ (z : ℕ). bit_xor z (at t lane)) (tail_stays 0 lane l h)
  mask_stays (suc r) lane l h = ap₂ bit_xor (tail_stays (suc r) lane l h) (mask_stays r lane (omega arith) h)

  pub head_twice : xored_head t (xored_head t s) ≡ s
  unfolding xored_head
  head_twice =
      let u = xored_head t s in
      sym
      (tab_ext (xored_head_at t u) (length u) s (sym (head_length t s))
      (λ p h.
      let k : p < length s = omega (arith, head_length t s) in
      ⊎_elim (λ b. head_before t s p b ∙ sym (head_at t s p k) ∙ head_before t u p b)
      (λ b.
      ⊎_elim
      (λ d.
      sym
      (head_in t u p b d
      ∙ ap₂ bit_xor (head_at t s p k ∙ head_in t s p b d) (mask_stays ((p - 0x40) / 0x20) (p % 0x20) (omega arith) (omega arith))
      ∙ xor_undo (at s p) (head_mask t s ((p - 0x40) / 0x20) (p % 0x20))))
      (λ d. head_after t s p d ∙ sym (head_at t s p k) ∙ head_after t u p d) (side p 0x140))
      (side p 0x40)))
