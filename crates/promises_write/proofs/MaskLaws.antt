-- What masks leave: the first bytes of a payload, and after unmasking all of it. Assumes nothing.
use Rattle.std.specs.Prelude.{Option, Some, None}
use Prim.Native.Nat.{ℕ, ◌≤◌, ◌<◌}
use mathlib.Core.Path.{◌≡◌, refl, sym, ◌∙◌}
use mathlib.Core.List.{List}
use mathlib.Core.Bool.{Bool, true, false, cond, ◌&&◌}
use mathlib.Core.Logic.{⊎_elim}
use native.Mathlib.Omega.{arith}
use lib.ListN.{length}
use lib.Dec.{eqb}
use borrow.Author.Tests.{lt-ltb, le-ltb}
use Rattle.laws.specs.Lists.{at}
use Rattle.laws.proofs.Side.{side}
use Rattle.key.specs.declared.Keys.{Keys}
use Rattle.key.specs.KeyTable.{keys_of}
use Rattle.mask.specs.Video.{xored_head, stored, masked_video}
use Rattle.mask.specs.Audio.{masked_audio}
use Rattle.mask.proofs.HeadLaws.{head_before}
use Rattle.mask.proofs.TailLaws.{tail_before}
use Rattle.mask.proofs.AudioLaws.{audio_before}
use Rattle.mask.proofs.UndoLaws.{tail_at, head_at, head_length, audio_at_lem}
use Rattle.mask.proofs.Promises.{VideoUndone, AudioUndone}
use Rattle.unmasking.specs.declared.Unmasking.{Unmasking}
use Rattle.unmasking.specs.Unmasking.{is_adx, unmasking_of, clear_video, clear_audio}
use Rattle.write_plan.specs.declared.Stream.{Stream}
use Rattle.write_plan.specs.declared.Stream.TheVariants.{Video, Audio}
use Rattle.write_plan.specs.Payloads.{stored_as}

-- ---- the first bytes stay

module _ (payload : List ℕ) (i : ℕ) (h : i < length payload) (low : i < 0x40) where
  video_first : (keys : Keys) → at (masked_video keys payload) i ≡ at payload i
  unfolding masked_video
  video_first keys =
      let head = xored_head keys.t payload in
      ⊎_elim (λ (b : length payload < 0x240). rw (lt-ltb (length payload) 0x240 b))
      (λ (b : 0x240 ≤ length payload).
      rw (le-ltb (length payload) 0x240 b)
      (tail_at (stored keys.v head) head i (omega (arith, head_length keys.t payload)) ∙ sym (tail_before (stored keys.v head) head i (omega arith))
      ∙ head_at keys.t payload i h ∙ sym (head_before keys.t payload i low)))
      (side (length payload) 0x240)

  audio_first : (keys : Keys) → at (masked_audio keys payload) i ≡ at payload i
  audio_first keys = audio_at_lem keys payload i h ∙ sym (audio_before keys.a payload i (omega arith))

  either : (t : Bool) (masked : List ℕ) → at masked i ≡ at payload i → at (cond t masked payload) i ≡ at payload i
  either true masked e = e
  either false masked e = refl

  pub first_stays : (by : Unmasking) (stream : Stream) → at (stored_as by stream payload) i ≡ at payload i
  first_stays by Video = either by.video (masked_video by.keys payload) (video_first by.keys)
  first_stays by Audio = either by.audio (masked_audio by.keys payload) (audio_first by.keys)

-- ---- what was masked is made clear

-- a payload of data type 0, made clear
abbrev pub clear_as : Unmasking → Stream → List ℕ → List ℕ
clear_as by Video payload = clear_video by 0 payload
clear_as by Audio payload = clear_audio by 0 payload

adx_undone : (t : Bool) (number : ℕ) (payload : List ℕ)
    → cond (t && eqb 0 0) (masked_audio (keys_of number) (cond t (masked_audio (keys_of number) payload) payload)) (cond t (masked_audio (keys_of number) payload) payload) ≡ payload
adx_undone true number payload = AudioUndone number payload
adx_undone false number payload = refl

pub undone : (key : Option ℕ) (codec : Option ℕ) (stream : Stream) (payload : List ℕ) → clear_as (unmasking_of key codec) stream (stored_as (unmasking_of key codec) stream payload) ≡ payload
undone None codec Video payload = refl
undone None codec Audio payload = refl
undone (Some number) codec Video payload = (VideoUndone number payload).0
undone (Some number) codec Audio payload = adx_undone (is_adx codec) number payload
