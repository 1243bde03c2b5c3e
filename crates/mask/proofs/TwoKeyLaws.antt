-- Where one payload comes out differently under two keys. A difference in V passes from each tail row into the next, and there meets V's own:
-- it stays in the even rows. The head gathers it from tail rows 0 to r, and T's own with it. Assumes nothing.
use mathlib.Core.Path.{◌≡◌, refl, sym, ap, ap₂, ◌∙◌}
use mathlib.Core.Logic.{⊎_elim}
use mathlib.Core.Bool.{Bool, true, false, not, cond}
use mathlib.Core.List.{List}
use Prim.Native.Nat.{ℕ, zero, suc, ◌+◌, ◌*◌, ◌-◌, ◌/◌, ◌%◌, ◌≤◌, ◌<◌}
use native.Mathlib.Omega.{arith}
use lib.ListN.{length}
use lib.Bits.{bit_xor, xor_self, xor_zero_r}
use lib.Dec.{eqb}
use borrow.Author.Tests.{lt-ltb, le-ltb, eq-eqb, ne_eqb}
use Rattle.laws.specs.Lists.{at}
use Rattle.laws.proofs.Side.{side}
use Rattle.laws.proofs.TabLaws.{tab_at}
use Rattle.laws.proofs.XorLaws.{xor_four, xor_shared}
use Rattle.key.specs.declared.Keys.{Keys}
use Rattle.key.specs.KeyTable.{table_t, table_v, letters, table_aat, table_a, keys_of}
use Rattle.mask.specs.Audio.{masked_audio}
use Rattle.mask.specs.Video.{tail, clear, clear_tail, head_mask, xored_head_at, unmasked_video}
use Rattle.mask.specs.Positions.{difference, head_row_differs, tail_row_differs, video_differs, audio_differs}
use Rattle.mask.proofs.AudioLaws.{audio_before, audio_after_lem}
use Rattle.mask.proofs.TailLaws.{tail_before}
use Rattle.mask.proofs.HeadLaws.{head_before, head_after, head_in}
use Rattle.mask.proofs.UndoLaws.{audio_at_lem, tail_length, tail_at, tail_of, head_at}

-- a difference where a test says so, and none elsewhere
abbrev pick : Bool → ℕ → ℕ
pick differs d = cond differs d 0

flip : (b : Bool) (d : ℕ) → bit_xor (pick b d) d ≡ pick (not b) d
flip true d = xor_self d
flip false d = refl

-- after an even row an odd one, and after an odd row an even one
turns : (r : ℕ) → not (tail_row_differs r) ≡ tail_row_differs (suc r)
turns r =
    ⊎_elim (λ h. rw (eq-eqb (r % 2) 0 (omega arith), ne_eqb (suc r % 2) 0 (λ q. omega arith)))
    (λ h. rw (ne_eqb (r % 2) 0 (λ q. omega arith), eq-eqb (suc r % 2) 0 (omega arith)))
    (side (r % 2) 1)

-- head rows 2, 3, 6, 7: each tail row that differs turns the head's difference on or off
gathers : (r d : ℕ) → r < 7 → bit_xor (pick (tail_row_differs (suc r)) d) (pick (head_row_differs r) d) ≡ pick (head_row_differs (suc r)) d
gathers zero d h = refl
gathers (suc zero) d h = xor_zero_r d
gathers (suc (suc zero)) d h = refl
gathers (suc (suc (suc zero))) d h = xor_self d
gathers (suc (suc (suc (suc zero)))) d h = refl
gathers (suc (suc (suc (suc (suc zero))))) d h = xor_zero_r d
gathers (suc (suc (suc (suc (suc (suc zero)))))) d h = refl
gathers (suc (suc (suc (suc (suc (suc (suc r))))))) d h = absurd (omega arith)

module _ (key key' : ℕ) where
  abbrev v : List ℕ
  v = (keys_of key).v

  abbrev v' : List ℕ
  v' = (keys_of key').v

  abbrev d : ℕ → ℕ
  d = difference key key'

  v_differs : (lane : ℕ) → lane < 0x20 → bit_xor (at v lane) (at v' lane) ≡ d lane
  unfolding keys_of table_v
  v_differs lane h =
      ap₂ bit_xor (tab_at (λ i. bit_xor (at (table_t key) i) 0xFF) 32 lane h) (tab_at (λ i. bit_xor (at (table_t key') i) 0xFF) 32 lane h)
      ∙ xor_shared (at (table_t key) lane) (at (table_t key') lane) 0xFF

  a_picks : (b : Bool) (lane : ℕ) → lane < 0x20
      → bit_xor (cond b (at v lane) (at letters (lane / 2 % 4))) (cond b (at v' lane) (at letters (lane / 2 % 4))) ≡ pick b (d lane)
  a_picks true lane h = v_differs lane h
  a_picks false lane h = xor_self (at letters (lane / 2 % 4))

  a_differs : (lane : ℕ) → lane < 0x20 → bit_xor (at (keys_of key).a lane) (at (keys_of key').a lane) ≡ pick (eqb (lane % 2) 0) (d lane)
  unfolding keys_of table_a
  a_differs lane h = ap₂ bit_xor (tab_at (table_aat v) 32 lane h) (tab_at (table_aat v') 32 lane h) ∙ a_picks (eqb (lane % 2) 0) lane h

  module _ (s : List ℕ) where
    pub audio_differs_lem : (p : ℕ) → p < length s
        → bit_xor (at (masked_audio (keys_of key) s) p) (at (masked_audio (keys_of key') s) p) ≡ cond (audio_differs p) (d (p % 0x20)) 0
    unfolding audio_differs
    audio_differs_lem p h =
        let a = (keys_of key).a in
        let a' = (keys_of key').a in
        ap₂ bit_xor (audio_at_lem (keys_of key) s p h) (audio_at_lem (keys_of key') s p h)
        ∙ ⊎_elim (λ b. ap₂ bit_xor (sym (audio_before a s p b)) (sym (audio_before a' s p b)) ∙ rw (lt-ltb p 0x140 b) (xor_self (at s p)))
        (λ b.
        ap₂ bit_xor (audio_after_lem a s p b) (audio_after_lem a' s p b)
        ∙ rw (le-ltb p 0x140 b)
        (xor_four (at s p) (at a (p % 0x20)) (at s p) (at a' (p % 0x20))
        ∙ ap₂ bit_xor (xor_self (at s p)) (a_differs (p % 0x20) (omega arith))))
        (side p 0x140)

    clear_differs : (r lane : ℕ) → lane < 0x20 → bit_xor (clear v s r lane) (clear v' s r lane) ≡ pick (tail_row_differs r) (d lane)
    unfolding clear
    clear_differs zero lane h =
        xor_four (tail s 0 lane) (at v lane) (tail s 0 lane) (at v' lane) ∙ ap₂ bit_xor (xor_self (tail s 0 lane)) (v_differs lane h)
    clear_differs (suc r) lane h =
        xor_four (tail s (suc r) lane) (bit_xor (clear v s r lane) (at v lane)) (tail s (suc r) lane) (bit_xor (clear v' s r lane) (at v' lane))
        ∙ ap₂ bit_xor (xor_self (tail s (suc r) lane))
        (xor_four (clear v s r lane) (at v lane) (clear v' s r lane) (at v' lane) ∙ ap₂ bit_xor (clear_differs r lane h) (v_differs lane h)
        ∙ flip (tail_row_differs r) (d lane) ∙ ap (λ (b : Bool). pick b (d lane)) (turns r))

    module _ (long : 0x240 ≤ length s) where
      abbrev t : List ℕ
      t = (keys_of key).t

      abbrev t' : List ℕ
      t' = (keys_of key').t

      -- the payload with its tail clear, under each key
      abbrev u : List ℕ
      u = clear_tail v s

      abbrev u' : List ℕ
      u' = clear_tail v' s

      tail-differs : (r lane : ℕ) → lane < 0x20 → 0x140 + r * 0x20 + lane < length s
          → bit_xor (tail u r lane) (tail u' r lane) ≡ pick (tail_row_differs r) (d lane)
      tail-differs r lane h k = ap₂ bit_xor (tail_of (clear v s) s r lane h k) (tail_of (clear v' s) s r lane h k) ∙ clear_differs r lane h

      mask-differs : (r lane : ℕ) → r < 8 → lane < 0x20 → bit_xor (head_mask t u r lane) (head_mask t' u' r lane) ≡ pick (head_row_differs r) (d lane)
      unfolding head_mask keys_of
      mask-differs zero lane l h =
          xor_four (tail u 0 lane) (at t lane) (tail u' 0 lane) (at t' lane)
          ∙ ap (λ (z : ℕ). bit_xor z (d lane)) (tail-differs 0 lane h (omega arith)) ∙ xor_self (d lane)
      mask-differs (suc r) lane l h =
          xor_four (tail u (suc r) lane) (head_mask t u r lane) (tail u' (suc r) lane) (head_mask t' u' r lane)
          ∙ ap₂ bit_xor (tail-differs (suc r) lane h (omega arith)) (mask-differs r lane (omega arith) h)
          ∙ gathers r (d lane) (omega arith)

      same_below : (p : ℕ) → p < 0x140 → bit_xor (at u p) (at u' p) ≡ 0
      same_below p h =
          ap₂ bit_xor (tail_at (clear v s) s p (omega arith) ∙ sym (tail_before (clear v s) s p h))
          (tail_at (clear v' s) s p (omega arith) ∙ sym (tail_before (clear v' s) s p h))
          ∙ xor_self (at s p)

      video_at : (keys : Keys) (p : ℕ) → p < length s → at (unmasked_video keys s) p ≡ xored_head_at keys.t (clear_tail keys.v s) p
      unfolding unmasked_video
      video_at keys p h =
          rw (le-ltb (length s) 0x240 long)
          (head_at keys.t (clear_tail keys.v s) p (omega (arith, tail_length (clear keys.v s) s)))

      pub video-differs : (p : ℕ) → p < length s
          → bit_xor (at (unmasked_video (keys_of key) s) p) (at (unmasked_video (keys_of key') s) p) ≡ cond (video_differs p) (d (p % 0x20)) 0
      unfolding video_differs
      video-differs p k =
          ap₂ bit_xor (video_at (keys_of key) p k) (video_at (keys_of key') p k)
          ∙ ⊎_elim
          (λ b. ap₂ bit_xor (sym (head_before t u p b)) (sym (head_before t' u' p b)) ∙ rw (lt-ltb p 0x40 b) (same_below p (omega arith)))
          (λ b.
          ⊎_elim
          (λ c.
          let r = (p - 0x40) / 0x20 in
          let lane = p % 0x20 in
          ap₂ bit_xor (head_in t u p b c) (head_in t' u' p b c)
          ∙ rw (le-ltb p 0x40 b, lt-ltb p 0x140 c)
          (xor_four (at u p) (head_mask t u r lane) (at u' p) (head_mask t' u' r lane)
          ∙ ap₂ bit_xor (same_below p c) (mask-differs r lane (omega arith) (omega arith))))
          (λ c.
          let r = (p - 0x140) / 0x20 in
          let q : 0x140 + r * 0x20 + p % 0x20 ≡ p = omega arith in
          ap₂ bit_xor (sym (head_after t u p c)) (sym (head_after t' u' p c))
          ∙ rw (le-ltb p 0x40 b, le-ltb p 0x140 c)
          (ap (λ (z : ℕ). bit_xor (at u z) (at u' z)) (sym q) ∙ tail-differs r (p % 0x20) (omega arith) (omega arith)))
          (side p 0x140))
          (side p 0x40)
