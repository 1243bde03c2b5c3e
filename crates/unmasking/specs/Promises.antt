-- What is promised of masks. Each is proved under the same name in proofs/Promises.antt.
use Rattle.std.specs.Prelude.{ℕ, ◌≡◌, List, Option, Some}
use Rattle.unmasking.specs.declared.Mask.{Mask}
use Rattle.unmasking.specs.Unmasking.{unmasking_of, clear_video, clear_audio, video_mask, audio_mask, cleared_by, mask_number, mask_by}

-- A payload is made clear in a film as it is by itself, by the mask that it has.
abbrev pub ClearByItsMask : Type 0
ClearByItsMask =
    (number data-type : ℕ) (codec : Option ℕ) (payload : List ℕ)
    → (clear_video (unmasking_of (Some number) codec) data-type payload ≡ cleared_by number (video_mask data-type) payload)
    × (clear_audio (unmasking_of (Some number) codec) data-type payload ≡ cleared_by number (audio_mask codec data-type) payload)

-- The number of a mask stands for that mask.
abbrev pub MaskOfItsNumber : Type 0
MaskOfItsNumber = (mask : Mask) → mask_by (mask_number mask) ≡ mask
