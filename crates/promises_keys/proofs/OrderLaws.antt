-- Audio under several keys, one after the other: two neighbours change places, and a key comes through a list of others. Assumes nothing.
use mathlib.Core.Path.{◌≡◌, refl, sym, ap, ◌∙◌}
use mathlib.Core.Logic.{⊎_elim}
use mathlib.Core.List.{List, [], ◌∷◌}
use Prim.Native.Nat.{ℕ, ◌%◌, ◌≤◌, ◌<◌}
use native.Mathlib.Omega.{arith}
use lib.ListN.{length}
use lib.Seq.{ext_get_or}
use lib.Bits.{bit_xor, xor_comm}
use Rattle.laws.specs.Lists.{at}
use Rattle.laws.proofs.Side.{side}
use Rattle.laws.proofs.XorLaws.{xor_assoc}
use Rattle.key.specs.KeyTable.{keys_of}
use Rattle.mask.specs.Audio.{audio_at}
use Rattle.mask.specs.Promises.{audio}
use Rattle.mask.proofs.AudioLaws.{audio_before, audio_after_lem}
use Rattle.mask.proofs.UndoLaws.{audio_length, audio_at_lem}
use Rattle.promises_keys.specs.Promises.{audio_under}

-- each byte from 0x140 on is XORed with a byte of each key
swap_bytes : (s a b : ℕ) → bit_xor (bit_xor s a) b ≡ bit_xor (bit_xor s b) a
swap_bytes s a b = xor_assoc s a b ∙ ap (bit_xor s) (xor_comm a b) ∙ sym (xor_assoc s b a)

twice_length : (a b : ℕ) (payload : List ℕ) → length (audio a (audio b payload)) ≡ length payload
twice_length a b payload = audio_length (keys_of a) (audio b payload) ∙ audio_length (keys_of b) payload

module _ (payload : List ℕ) (p : ℕ) (h : p < length payload) where
  twice_at : (a b : ℕ) → at (audio a (audio b payload)) p ≡ audio_at (keys_of a).a (audio b payload) p
  twice_at a b = audio_at_lem (keys_of a) (audio b payload) p (omega (arith, audio_length (keys_of b) payload))

  twice_before : (a b : ℕ) → p < 0x140 → at (audio a (audio b payload)) p ≡ at payload p
  twice_before a b l =
      twice_at a b ∙ sym (audio_before (keys_of a).a (audio b payload) p l) ∙ audio_at_lem (keys_of b) payload p h ∙ sym (audio_before (keys_of b).a payload p l)

  twice_after : (a b : ℕ) → 0x140 ≤ p
      → at (audio a (audio b payload)) p ≡ bit_xor (bit_xor (at payload p) (at (keys_of b).a (p % 0x20))) (at (keys_of a).a (p % 0x20))
  twice_after a b l =
      twice_at a b ∙ audio_after_lem (keys_of a).a (audio b payload) p l
      ∙ ap (λ (c : ℕ). bit_xor c (at (keys_of a).a (p % 0x20))) (audio_at_lem (keys_of b) payload p h ∙ audio_after_lem (keys_of b).a payload p l)

pub swap : (a b : ℕ) (payload : List ℕ) → audio a (audio b payload) ≡ audio b (audio a payload)
swap a b payload =
    ext_get_or 0 (audio a (audio b payload)) (audio b (audio a payload)) (twice_length a b payload ∙ sym (twice_length b a payload))
    (λ p h.
    let k : p < length payload = omega (arith, twice_length a b payload) in
    ⊎_elim (λ l. twice_before payload p k a b l ∙ sym (twice_before payload p k b a l))
    (λ l.
    twice_after payload p k a b l ∙ swap_bytes (at payload p) (at (keys_of b).a (p % 0x20)) (at (keys_of a).a (p % 0x20))
    ∙ sym (twice_after payload p k b a l))
    (side p 0x140))

-- a key comes through a list to its other end
pub past : (key : ℕ) (keys payload : List ℕ) → audio_under keys (audio key payload) ≡ audio key (audio_under keys payload)
past key [] payload = refl
past key (k ∷ keys) payload = ap (audio k) (past key keys payload) ∙ swap k key (audio_under keys payload)
