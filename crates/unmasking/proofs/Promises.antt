-- The promises of specs/Promises.antt, each under its name: the same test decides both. Assumes nothing.
use Prim.Native.Nat.{ℕ}
use mathlib.Core.Path.{◌≡◌, refl}
use mathlib.Core.List.{List}
use mathlib.Core.Bool.{Bool, true, false, cond}
use Rattle.key.specs.KeyTable.{keys_of}
use Rattle.mask.specs.Video.{unmasked_video}
use Rattle.mask.specs.Audio.{masked_audio}
use Rattle.unmasking.specs.declared.Mask.TheVariants.{Clear, VideoMask, AudioMask}
use Rattle.unmasking.specs.Unmasking.{is_adx, is_masked, cleared_by}
use Rattle.unmasking.specs.Promises as promised

module _ (number : ℕ) (payload : List ℕ) where
  video_by_lem : (test : Bool) → cond test (unmasked_video (keys_of number) payload) payload ≡ cleared_by number (cond test VideoMask Clear) payload
  video_by_lem true = refl
  video_by_lem false = refl

  audio_by_lem : (test : Bool) → cond test (masked_audio (keys_of number) payload) payload ≡ cleared_by number (cond test AudioMask Clear) payload
  audio_by_lem true = refl
  audio_by_lem false = refl

pub ClearByItsMask : promised.ClearByItsMask
ClearByItsMask number data-type codec payload =
    (video_by_lem number payload (is_masked true data-type), audio_by_lem number payload (is_masked (is_adx codec) data-type))

pub MaskOfItsNumber : promised.MaskOfItsNumber
MaskOfItsNumber Clear = refl
MaskOfItsNumber VideoMask = refl
MaskOfItsNumber AudioMask = refl
