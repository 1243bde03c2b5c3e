-- The promise of specs/Promises.antt under its name: rules D say by how much two answers differ at a position, and that is 0 where the T agree in the lane.
-- Assumes nothing.
use Prim.Native.Nat.{ℕ, ◌%◌, ◌≤◌, ◌<◌}
use mathlib.Core.Path.{◌≡◌, refl, sym, ◌∙◌}
use mathlib.Core.Logic.{⊎_elim}
use mathlib.Core.Bool.{Bool, true, false, cond, not, ◌&&◌}
use mathlib.Core.List.{List}
use native.Mathlib.Omega.{arith}
use lib.ListN.{length}
use lib.Bits.{xor_self}
use lib.Seq.{ext_get_or}
use lib.Dec.{leb, eqb}
use borrow.Author.Tests.{eqb-true, eqb-false, leb-true, leb-false}
use Rattle.laws.specs.Lists.{at}
use Rattle.laws.proofs.Side.{side}
use Rattle.laws.proofs.XorLaws.{xor_none}
use Rattle.key.specs.KeyTable.{table_t, keys_of}
use Rattle.mask.specs.Positions.{difference, video_differs}
use Rattle.mask.specs.Promises.{apart}
use Rattle.mask.proofs.UndoLaws.{audio_length, video_length}
use Rattle.mask.proofs.Promises.{ShortVideoStays, VideoDiffersByD, AudioDiffersByD}
use Rattle.unmasking.specs.declared.Mask.{Mask}
use Rattle.unmasking.specs.declared.Mask.TheVariants.{Clear, VideoMask, AudioMask}
use Rattle.unmasking.specs.Unmasking.{cleared_by}
use Rattle.key_apart.specs.PayloadsApart.{differs_in, is_masked_in, parts_at, first_by, apart_in}
use Rattle.key_apart.specs.Promises as promised
use Rattle.key_apart.proofs.FirstLaws.{first_is}

-- n is the first of so many positions at which something is apart, or their number
pub record Parts (d : ℕ → ℕ) (size n : ℕ) : Type 0 where
  pub within : n ≤ size
  pub below : (p : ℕ) → p < n → d p ≡ 0
  pub here : n < size → d n ≡ 0 → ⊥

module _ (key key' : ℕ) where
  abbrev t : List ℕ
  t = table_t key

  abbrev u : List ℕ
  u = table_t key'

  -- at a position of a masked payload. b: the keys can differ there. e: their T agree in the lane
  together : (p : ℕ) (b e : Bool) → eqb (at t (p % 0x20)) (at u (p % 0x20)) ≡ e → (b && not e) ≡ false → cond b (difference key key' (p % 0x20)) 0 ≡ 0
  together p true true q h = rw (eqb-true (at t (p % 0x20)) (at u (p % 0x20)) q) (xor_self (at u (p % 0x20)))
  together p true false q h = let z : ◌≡◌ {A = ℕ} 0 1 = cc in absurd (omega arith)
  together p false e q h = refl

  separate : (p : ℕ) (b e : Bool) → eqb (at t (p % 0x20)) (at u (p % 0x20)) ≡ e → (b && not e) ≡ true → cond b (difference key key' (p % 0x20)) 0 ≡ 0 → ⊥
  separate p true true q h z = let z : ◌≡◌ {A = ℕ} 0 1 = cc in absurd (omega arith)
  separate p true false q h z = eqb-false (at t (p % 0x20)) (at u (p % 0x20)) q (xor_none (at t (p % 0x20)) (at u (p % 0x20)) z)
  separate p false e q h z = let z : ◌≡◌ {A = ℕ} 0 1 = cc in absurd (omega arith)

  -- one payload, whose bytes are as far apart as rules D say
  pub payload_parts : (mask : Mask) (d : ℕ → ℕ) (n : ℕ) → ((p : ℕ) → p < n → d p ≡ cond (is_masked_in mask n && differs_in mask p) (difference key key' (p % 0x20)) 0)
      → Parts d n (apart_in mask key key' n)
  unfolding apart_in
  payload_parts mask d n law = by_mask (is_masked_in mask n) refl
    where
      by_mask : (masked : Bool) → is_masked_in mask n ≡ masked → Parts d n (cond masked (first_by (parts_at mask t u) 0 n) n)
      by_mask true m =
          let first = first_is (parts_at mask t u) 0 n in
          let by_d : (p : ℕ) → p < n → d p ≡ cond (differs_in mask p) (difference key key' (p % 0x20)) 0 = λ p h. rw m at (law p h) in
          record {
            within = omega (arith, first.within);
            below = λ p h.
                by_d p (omega (arith, first.within))
                ∙ together p (differs_in mask p) (eqb (at t (p % 0x20)) (at u (p % 0x20))) refl (first.before p (omega arith) h);
            here = λ h z.
                let i = first_by (parts_at mask t u) 0 n in
                separate i (differs_in mask i) (eqb (at t (i % 0x20)) (at u (i % 0x20))) refl (first.here (omega arith)) (sym (by_d i h) ∙ z);
          }
      by_mask false m = record { within = omega arith; below = λ p h. rw m at (law p h); here = λ h. absurd (omega arith) }

-- ---- a payload made clear

-- below 0x240 bytes a video payload is not masked
video_law : (key key' : ℕ) (payload : List ℕ) (p : ℕ) → p < length payload → (b : Bool) → leb 0x240 (length payload) ≡ b
    → apart (cleared_by key VideoMask payload) (cleared_by key' VideoMask payload) p ≡ cond (b && video_differs p) (difference key key' (p % 0x20)) 0
video_law key key' payload p h true e = VideoDiffersByD key key' payload (leb-true 0x240 (length payload) e) p h
video_law key key' payload p h false e =
    let l = leb-false 0x240 (length payload) e in
    rw (ShortVideoStays key payload l, ShortVideoStays key' payload l) (xor_self (at payload p))

cleared_law : (mask : Mask) (key key' : ℕ) (payload : List ℕ) (p : ℕ) → p < length payload
    → apart (cleared_by key mask payload) (cleared_by key' mask payload) p ≡ cond (is_masked_in mask (length payload) && differs_in mask p) (difference key key' (p % 0x20)) 0
cleared_law Clear key key' payload p h = xor_self (at payload p)
cleared_law VideoMask key key' payload p h = video_law key key' payload p h (leb 0x240 (length payload)) refl
cleared_law AudioMask key key' payload p h = AudioDiffersByD key key' payload p h

cleared_length : (mask : Mask) (key : ℕ) (payload : List ℕ) → length (cleared_by key mask payload) ≡ length payload
cleared_length Clear key payload = refl
cleared_length VideoMask key payload = video_length (keys_of key) payload
cleared_length AudioMask key payload = audio_length (keys_of key) payload

pub PayloadsPartThere : promised.PayloadsPartThere
PayloadsPartThere mask key key' payload =
    let clear = cleared_by key mask payload in
    let clear' = cleared_by key' mask payload in
    let n = apart_in mask key key' (length payload) in
    let parts = payload_parts key key' mask (apart clear clear') (length payload) (cleared_law mask key key' payload) in (
      parts.within,
      (λ l. (λ p h. xor_none (at clear p) (at clear' p) (parts.below p h), λ e. parts.here l (rw e (xor_self (at clear' n))))),
      (
        λ e. ext_get_or 0 clear clear' (cleared_length mask key payload ∙ sym (cleared_length mask key' payload)) (λ p h. xor_none (at clear p) (at clear' p) (parts.below p (omega (arith, cleared_length mask key payload)))),
        λ e. ⊎_elim (λ (l : n < length payload). absurd (parts.here l (rw e (xor_self (at clear' n))))) (λ (l : length payload ≤ n). omega (arith, parts.within)) (side n (length payload)),
      ),
    )
