-- The XOR of three goes through every step of unmasking: a byte of a table that each of the three is XORed with comes in three times, which is
-- once. Assumes nothing.
use mathlib.Core.Path.{◌≡◌, sym, ap, ap₂, ◌∙◌}
use mathlib.Core.Logic.{⊎_elim}
use mathlib.Core.List.{List}
use Prim.Native.Nat.{ℕ, zero, suc, ◌+◌, ◌*◌, ◌-◌, ◌/◌, ◌%◌, ◌≤◌, ◌<◌}
use native.Mathlib.Omega.{arith}
use lib.ListN.{length, get_or-eq_default}
use lib.Seq.{ext_get_or}
use lib.Bits.{bit_xor, xor_self}
use borrow.Author.Tests.{lt-ltb, le-ltb}
use Rattle.laws.specs.Lists.{tab, at}
use Rattle.laws.proofs.Side.{side}
use Rattle.laws.proofs.TabLaws.{tab_length, tab_at}
use Rattle.laws.proofs.XorLaws.{xor_four}
use Rattle.mask.specs.Rows.{xored}
use Rattle.mask.specs.Audio.{audio_at, masked_audio}
use Rattle.mask.specs.Video.{tail, clear, with_tail_at, with_tail, clear_tail, head_mask, xored_head_at, xored_head, unmasked_video}
use Rattle.mask.proofs.RowLaws.{xored_length, xored_at}
use Rattle.mask.proofs.UndoLaws.{tail_length}
use Rattle.key.specs.declared.Keys.{Keys}
use Rattle.promises_keys.specs.Promises.{three}

-- the XOR of three bytes
abbrev xor3 : ℕ → ℕ → ℕ → ℕ
xor3 a b c = bit_xor (bit_xor a b) c

same3 : (a : ℕ) → a ≡ xor3 a a a
same3 a = sym (ap (λ (z : ℕ). bit_xor z a) (xor_self a))

split3 : (a b c a' b' c' : ℕ) → bit_xor (xor3 a b c) (xor3 a' b' c') ≡ xor3 (bit_xor a a') (bit_xor b b') (bit_xor c c')
split3 a b c a' b' c' = xor_four (bit_xor a b) c (bit_xor a' b') c' ∙ ap (λ (z : ℕ). bit_xor z (bit_xor c c')) (xor_four a b a' b')

-- the same byte XORed into all three
into3 : (a b c d : ℕ) → bit_xor (xor3 a b c) d ≡ xor3 (bit_xor a d) (bit_xor b d) (bit_xor c d)
into3 a b c d = ap (bit_xor (xor3 a b c)) (same3 d) ∙ split3 a b c d d d

three_length : (x y z : List ℕ) → length (three x y z) ≡ length x
three_length x y z = xored_length (xored x y) z ∙ xored_length x y

three_at : (x y z : List ℕ) (p : ℕ) → p < length x → at (three x y z) p ≡ xor3 (at x p) (at y p) (at z p)
three_at x y z p h =
    xored_at (xored x y) z p (omega (arith, xored_length x y)) ∙ ap (λ (b : ℕ). bit_xor b (at z p)) (xored_at x y p h)

-- three lists of one length
module _ (x y z : List ℕ) (ey : length x ≡ length y) (ez : length x ≡ length z) where
  -- their XOR, past the end too
  at_three : (p : ℕ) → at (three x y z) p ≡ xor3 (at x p) (at y p) (at z p)
  at_three p =
      ⊎_elim (λ b. three_at x y z p b)
      (λ (b : length x ≤ p).
      rw (
        get_or-eq_default (three x y z) 0 {n = p} (omega (arith, three_length x y z)),
        get_or-eq_default x 0 {n = p} b,
        get_or-eq_default y 0 {n = p} (omega arith),
        get_or-eq_default z 0 {n = p} (omega arith),
      ))
      (side p (length x))

  -- what goes through byte by byte goes through whole
  through : (f : List ℕ → ℕ → ℕ) → ((p : ℕ) → f (three x y z) p ≡ xor3 (f x p) (f y p) (f z p))
      → tab (f (three x y z)) (length (three x y z)) ≡ three (tab (f x) (length x)) (tab (f y) (length y)) (tab (f z) (length z))
  through f bytes =
      let n = length x in
      let inner : tab (f (three x y z)) n ≡ three (tab (f x) n) (tab (f y) n) (tab (f z) n) =
      ext_get_or 0 (tab (f (three x y z)) n) (three (tab (f x) n) (tab (f y) n) (tab (f z) n))
      (tab_length _ n ∙ sym (three_length (tab (f x) n) (tab (f y) n) (tab (f z) n) ∙ tab_length (f x) n))
      (λ p h.
      let k : p < n = omega (arith, tab_length (f (three x y z)) n) in
      tab_at (f (three x y z)) n p k ∙ bytes p
      ∙ sym
      (three_at (tab (f x) n) (tab (f y) n) (tab (f z) n) p (omega (arith, tab_length (f x) n))
      ∙ ap₂ bit_xor (ap₂ bit_xor (tab_at (f x) n p k) (tab_at (f y) n p k)) (tab_at (f z) n p k))) in
      rw (three_length x y z, ← ey, ← ez) inner

  pub audio_three : (keys : Keys) → masked_audio keys (three x y z) ≡ three (masked_audio keys x) (masked_audio keys y) (masked_audio keys z)
  unfolding masked_audio audio_at
  audio_three keys =
      through (audio_at keys.a)
      (λ p.
      ⊎_elim (λ b. rw (lt-ltb p 0x140 b) (at_three p))
      (λ b.
      rw (le-ltb p 0x140 b)
      (ap (λ (c : ℕ). bit_xor c (at keys.a (p % 0x20))) (at_three p) ∙ into3 (at x p) (at y p) (at z p) (at keys.a (p % 0x20))))
      (side p 0x140))

  clear_three : (v : List ℕ) (r lane : ℕ) → clear v (three x y z) r lane ≡ xor3 (clear v x r lane) (clear v y r lane) (clear v z r lane)
  unfolding clear
  clear_three v zero lane =
      ap (λ (c : ℕ). bit_xor c (at v lane)) (at_three (0x140 + 0 * 0x20 + lane)) ∙ into3 (tail x 0 lane) (tail y 0 lane) (tail z 0 lane) (at v lane)
  clear_three v (suc r) lane =
      ap₂ (λ (c d : ℕ). bit_xor c (bit_xor d (at v lane))) (at_three (0x140 + suc r * 0x20 + lane)) (clear_three v r lane)
      ∙ ap (bit_xor (xor3 (tail x (suc r) lane) (tail y (suc r) lane) (tail z (suc r) lane)))
      (into3 (clear v x r lane) (clear v y r lane) (clear v z r lane) (at v lane))
      ∙ split3 (tail x (suc r) lane) (tail y (suc r) lane) (tail z (suc r) lane)
      (bit_xor (clear v x r lane) (at v lane)) (bit_xor (clear v y r lane) (at v lane)) (bit_xor (clear v z r lane) (at v lane))

  tail_three : (v : List ℕ) → clear_tail v (three x y z) ≡ three (clear_tail v x) (clear_tail v y) (clear_tail v z)
  unfolding with_tail with_tail_at
  tail_three v =
      through (λ s. with_tail_at (clear v s) s)
      (λ p.
      ⊎_elim (λ b. rw (lt-ltb p 0x140 b) (at_three p)) (λ b. rw (le-ltb p 0x140 b) (clear_three v ((p - 0x140) / 0x20) (p % 0x20)))
      (side p 0x140))

  mask_three : (t : List ℕ) (r lane : ℕ) → head_mask t (three x y z) r lane ≡ xor3 (head_mask t x r lane) (head_mask t y r lane) (head_mask t z r lane)
  unfolding head_mask
  mask_three t zero lane =
      ap (λ (c : ℕ). bit_xor c (at t lane)) (at_three (0x140 + 0 * 0x20 + lane)) ∙ into3 (tail x 0 lane) (tail y 0 lane) (tail z 0 lane) (at t lane)
  mask_three t (suc r) lane =
      ap₂ bit_xor (at_three (0x140 + suc r * 0x20 + lane)) (mask_three t r lane)
      ∙ split3 (tail x (suc r) lane) (tail y (suc r) lane) (tail z (suc r) lane) (head_mask t x r lane) (head_mask t y r lane) (head_mask t z r lane)

  head_three : (t : List ℕ) → xored_head t (three x y z) ≡ three (xored_head t x) (xored_head t y) (xored_head t z)
  unfolding xored_head xored_head_at
  head_three t =
      through (xored_head_at t)
      (λ p.
      ⊎_elim (λ b. rw (lt-ltb p 0x40 b) (at_three p))
      (λ b.
      ⊎_elim
      (λ c.
      let r = (p - 0x40) / 0x20 in
      let lane = p % 0x20 in
      rw (le-ltb p 0x40 b, lt-ltb p 0x140 c)
      (ap₂ bit_xor (at_three p) (mask_three t r lane)
      ∙ split3 (at x p) (at y p) (at z p) (head_mask t x r lane) (head_mask t y r lane) (head_mask t z r lane)))
      (λ c. rw (le-ltb p 0x40 b, le-ltb p 0x140 c) (at_three p)) (side p 0x140))
      (side p 0x40))

pub video_three : (keys : Keys) (x y z : List ℕ) → length x ≡ length y → length x ≡ length z
    → unmasked_video keys (three x y z) ≡ three (unmasked_video keys x) (unmasked_video keys y) (unmasked_video keys z)
unfolding unmasked_video
video_three keys x y z ey ez =
    let v = keys.v in
    let same : (s : List ℕ) → length (clear_tail v s) ≡ length s = λ s. tail_length (clear v s) s in
    rw (three_length x y z, ← ey, ← ez)
    (⊎_elim (λ b. rw (lt-ltb (length x) 0x240 b))
    (λ b.
    rw (le-ltb (length x) 0x240 b)
    (ap (xored_head keys.t) (tail_three x y z ey ez v)
    ∙ head_three (clear_tail v x) (clear_tail v y) (clear_tail v z) (same x ∙ ey ∙ sym (same y)) (same x ∙ ez ∙ sym (same z)) keys.t))
    (side (length x) 0x240))
