-- The beginning of a payload is made clear as it is in the whole payload, from 0x240 bytes on: a clear row goes by the rows before it, and the head by the tail's
-- first eight rows. Assumes nothing.
use mathlib.Core.Path.{◌≡◌, refl, sym, ap, ap₂, ◌∙◌}
use mathlib.Core.Logic.{◌⊎◌, inl, inr, ⊎_elim}
use mathlib.Core.List.{List}
use Prim.Native.Nat.{ℕ, zero, suc, ◌+◌, ◌*◌, ◌-◌, ◌/◌, ◌%◌, ◌≤◌, ◌<◌}
use native.Mathlib.Omega.{arith}
use lib.ListN.{length, take}
use lib.Seq.{ext_get_or, get_or-take, length-take-le, take_all}
use lib.Bits.{bit_xor}
use borrow.Author.Tests.{le-ltb}
use Rattle.laws.specs.Lists.{at}
use Rattle.laws.proofs.Side.{side}
use Rattle.key.specs.declared.Keys.{Keys}
use Rattle.key.specs.KeyTable.{keys_of}
use Rattle.mask.specs.Audio.{audio_at, masked_audio}
use Rattle.mask.specs.Video.{tail, clear, clear_tail, head_mask, xored_head_at, unmasked_video}
use Rattle.mask.proofs.AudioLaws.{audio_before, audio_after_lem}
use Rattle.mask.proofs.TailLaws.{tail_before}
use Rattle.mask.proofs.HeadLaws.{head_before, head_after, head_in}
use Rattle.mask.proofs.UndoLaws.{audio_at_lem, audio_length, tail_length, tail_at, tail_of, head_at, video_length}
use Rattle.unmasking.specs.declared.Mask.{Mask}
use Rattle.unmasking.specs.declared.Mask.TheVariants.{Clear, VideoMask, AudioMask}
use Rattle.unmasking.specs.Unmasking.{cleared_by}

pub cleared_length : (number : ℕ) (mask : Mask) (s : List ℕ) → length (cleared_by number mask s) ≡ length s
cleared_length number Clear s = refl
cleared_length number VideoMask s = video_length (keys_of number) s
cleared_length number AudioMask s = audio_length (keys_of number) s

module _ (keys : Keys) (s : List ℕ) (long : 0x240 ≤ length s) where
  video_at : (p : ℕ) → p < length s → at (unmasked_video keys s) p ≡ xored_head_at keys.t (clear_tail keys.v s) p
  unfolding unmasked_video
  video_at p h =
      rw (le-ltb (length s) 0x240 long)
      (head_at keys.t (clear_tail keys.v s) p (omega (arith, tail_length (clear keys.v s) s)))

  -- a byte of the tail
  pub video_tail : (r lane : ℕ) → lane < 0x20 → 0x140 + r * 0x20 + lane < length s
      → at (unmasked_video keys s) (0x140 + r * 0x20 + lane) ≡ clear keys.v s r lane
  video_tail r lane h k =
      video_at (0x140 + r * 0x20 + lane) k ∙ sym (head_after keys.t (clear_tail keys.v s) (0x140 + r * 0x20 + lane) (omega arith))
      ∙ tail_of (clear keys.v s) s r lane h k

-- two payloads that agree below n
module _ (keys : Keys) (s s' : List ℕ) (n : ℕ) (same : (p : ℕ) → p < n → at s p ≡ at s' p) (long : 0x240 ≤ n) (l : n ≤ length s) (l' : n ≤ length s') where
  abbrev t : List ℕ
  t = keys.t

  abbrev v : List ℕ
  v = keys.v

  -- each with its tail clear
  abbrev u : List ℕ
  u = clear_tail v s

  abbrev u' : List ℕ
  u' = clear_tail v s'

  same_clear : (r lane : ℕ) → 0x140 + r * 0x20 + lane < n → clear v s r lane ≡ clear v s' r lane
  unfolding clear
  same_clear zero lane k = ap (λ (z : ℕ). bit_xor z (at v lane)) (same (0x140 + 0 * 0x20 + lane) k)
  same_clear (suc r) lane k =
      ap₂ (λ (x y : ℕ). bit_xor x (bit_xor y (at v lane))) (same (0x140 + suc r * 0x20 + lane) k) (same_clear r lane (omega arith))

  same_tail : (r lane : ℕ) → lane < 0x20 → 0x140 + r * 0x20 + lane < n → tail u r lane ≡ tail u' r lane
  same_tail r lane h k =
      tail_of (clear v s) s r lane h (omega arith) ∙ same_clear r lane k ∙ sym (tail_of (clear v s') s' r lane h (omega arith))

  same_mask : (r lane : ℕ) → r < 8 → lane < 0x20 → head_mask t u r lane ≡ head_mask t u' r lane
  unfolding head_mask
  same_mask zero lane e h = ap (λ (z : ℕ). bit_xor z (at t lane)) (same_tail 0 lane h (omega arith))
  same_mask (suc r) lane e h = ap₂ bit_xor (same_tail (suc r) lane h (omega arith)) (same_mask r lane (omega arith) h)

  same_below : (p : ℕ) → p < 0x140 → at u p ≡ at u' p
  same_below p h =
      tail_at (clear v s) s p (omega arith) ∙ sym (tail_before (clear v s) s p h) ∙ same p (omega arith) ∙ tail_before (clear v s') s' p h
      ∙ sym (tail_at (clear v s') s' p (omega arith))

  same_head : (p : ℕ) → p < n → xored_head_at t u p ≡ xored_head_at t u' p
  same_head p h =
      ⊎_elim (λ (b : p < 0x40). sym (head_before t u p b) ∙ same_below p (omega arith) ∙ head_before t u' p b)
      (λ (b : 0x40 ≤ p).
      ⊎_elim
      (λ (c : p < 0x140).
      head_in t u p b c ∙ ap₂ bit_xor (same_below p c) (same_mask ((p - 0x40) / 0x20) (p % 0x20) (omega arith) (omega arith))
      ∙ sym (head_in t u' p b c))
      (λ (c : 0x140 ≤ p).
      let q : 0x140 + (p - 0x140) / 0x20 * 0x20 + p % 0x20 ≡ p = omega arith in
      sym (head_after t u p c) ∙ ap (at u) (sym q) ∙ same_tail ((p - 0x140) / 0x20) (p % 0x20) (omega arith) (omega arith) ∙ ap (at u') q
      ∙ head_after t u' p c)
      (side p 0x140))
      (side p 0x40)

  pub same_video : (p : ℕ) → p < n → at (unmasked_video keys s) p ≡ at (unmasked_video keys s') p
  same_video p h = video_at keys s (omega arith) p (omega arith) ∙ same_head p h ∙ sym (video_at keys s' (omega arith) p (omega arith))

same_audio : (keys : Keys) (s s' : List ℕ) (p : ℕ) → p < length s → p < length s' → at s p ≡ at s' p → at (masked_audio keys s) p ≡ at (masked_audio keys s') p
unfolding audio_at
same_audio keys s s' p h h' e = audio_at_lem keys s p h ∙ rw e (sym (audio_at_lem keys s' p h'))

module _ (s : List ℕ) (n : ℕ) (l : n ≤ length s) where
  front : length (take n s) ≡ n
  front = length-take-le n s l

  same : (p : ℕ) → p < n → at (take n s) p ≡ at s p
  same p h = get_or-take n s p 0 h

  -- a beginning whose bytes are those of the whole
  as_whole : (clear : List ℕ → List ℕ) → ((x : List ℕ) → length (clear x) ≡ length x) → ((p : ℕ) → p < n → at (clear (take n s)) p ≡ at (clear s) p)
      → clear (take n s) ≡ take n (clear s)
  as_whole clear kept e =
      let m : length (clear (take n s)) ≡ n = kept (take n s) ∙ front in
      ext_get_or 0 (clear (take n s)) (take n (clear s)) (m ∙ sym (length-take-le n (clear s) (omega (arith, kept s))))
      (λ p h. let k : p < n = omega arith in e p k ∙ sym (get_or-take n (clear s) p 0 k))

  pub clear_beginning : (number : ℕ) (mask : Mask) → 0x240 ≤ n → cleared_by number mask (take n s) ≡ take n (cleared_by number mask s)
  clear_beginning number Clear h = refl
  clear_beginning number VideoMask h =
      as_whole (unmasked_video (keys_of number)) (video_length (keys_of number))
      (same_video (keys_of number) (take n s) s n same h (omega (arith, front)) l)
  clear_beginning number AudioMask h =
      as_whole (masked_audio (keys_of number)) (audio_length (keys_of number))
      (λ p k. same_audio (keys_of number) (take n s) s p (omega (arith, front)) (omega arith) (same p k))

-- and so is all of it
pub clear_all : (number : ℕ) (mask : Mask) (s : List ℕ) (n : ℕ) → n ≡ length s → cleared_by number mask (take n s) ≡ take n (cleared_by number mask s)
clear_all number mask s n e =
    ap (cleared_by number mask) (take_all n s (omega arith)) ∙ sym (take_all n (cleared_by number mask s) (omega (arith, cleared_length number mask s)))
