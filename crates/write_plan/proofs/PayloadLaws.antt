-- The payloads of a stream: the first, and those of the rest. A payload is stored at its own length. Assumes nothing.
use Prim.Native.Nat.{ℕ, suc, ◌+◌, ◌/◌, ◌<◌}
use mathlib.Core.Path.{◌≡◌, refl, ap, ◌∙◌}
use mathlib.Core.List.{List, [], ◌∷◌}
use mathlib.Core.Bool.{Bool, true, false, cond}
use mathlib.Core.Logic.{⊎_elim}
use native.Mathlib.Omega.{arith}
use lib.ListN.{length, take, drop, length-drop}
use borrow.Author.Tests.{lt-ltb, le-ltb}
use Rattle.laws.proofs.Side.{side}
use Rattle.key.specs.declared.Keys.{Keys}
use Rattle.mask.specs.Video.{xored_head, stored, masked_video}
use Rattle.mask.specs.Audio.{masked_audio}
use Rattle.mask.proofs.UndoLaws.{tail_length, head_length, audio_length}
use Rattle.unmasking.specs.declared.Unmasking.{Unmasking}
use Rattle.write_plan.specs.declared.Stream.{Stream}
use Rattle.write_plan.specs.declared.Stream.TheVariants.{Video, Audio}
use Rattle.write_plan.specs.Payloads.{cut, payloads_of, stored_as}

pub payloads_none : payloads_of [] ≡ []
unfolding payloads_of cut
payloads_none = refl

pub payloads_more : (stream : List ℕ) → 0 < length stream → payloads_of stream ≡ take 0x10000 stream ∷ payloads_of (drop 0x10000 stream)
unfolding payloads_of cut
payloads_more stream h =
    let n : (length stream + 0xFFFF) / 0x10000 ≡ suc ((length (drop 0x10000 stream) + 0xFFFF) / 0x10000) = rw length-drop (omega arith) in
    ap (λ (k : ℕ). cut k stream) n

-- ---- lengths

masked_length : (keys : Keys) (s : List ℕ) → length (masked_video keys s) ≡ length s
unfolding masked_video
masked_length keys s =
    ⊎_elim (λ b. rw (lt-ltb (length s) 0x240 b))
    (λ b. rw (le-ltb (length s) 0x240 b) (tail_length (stored keys.v (xored_head keys.t s)) (xored_head keys.t s) ∙ head_length keys.t s))
    (side (length s) 0x240)

either_length : (t : Bool) (masked payload : List ℕ) → length masked ≡ length payload → length (cond t masked payload) ≡ length payload
either_length true masked payload e = e
either_length false masked payload e = refl

pub stored_length : (by : Unmasking) (stream : Stream) (payload : List ℕ) → length (stored_as by stream payload) ≡ length payload
stored_length by Video payload = either_length by.video (masked_video by.keys payload) payload (masked_length by.keys payload)
stored_length by Audio payload = either_length by.audio (masked_audio by.keys payload) payload (audio_length by.keys payload)
