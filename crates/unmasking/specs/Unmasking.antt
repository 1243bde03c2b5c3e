-- Rules C: a payload "is unmasked only with a key and data type 0, audio only if `audio_codec` is 2."
use Rattle.std.specs.Prelude.{ℕ, List, Bool, true, false, cond, ◌&&◌, eqb, Option, Some, None}
use Rattle.key.specs.KeyTable.{keys_of}
use Rattle.mask.specs.Video.{unmasked_video}
use Rattle.mask.specs.Audio.{masked_audio}
use Rattle.unmasking.specs.declared.Unmasking.{Unmasking}
use Rattle.unmasking.specs.declared.Mask.{Mask}
use Rattle.unmasking.specs.declared.Mask.TheVariants.{Clear, VideoMask, AudioMask}

-- the key by two numbers, ours for C: 0 for the first means that there is none
abbrev pub key_by : ℕ → ℕ → Option ℕ
key_by given number = cond (eqb given 0) None (Some number)

-- "if `audio_codec` is 2"
abbrev pub is_adx : Option ℕ → Bool
is_adx (Some n) = eqb n 2
is_adx None = false

-- "only with a key". Without one no table counts; those of key 0 stand in their place
abbrev pub unmasking_of : Option ℕ → Option ℕ → Unmasking
unmasking_of None codec = record { video = false; audio = false; keys = keys_of 0 }
unmasking_of (Some number) codec = record { video = true; audio = is_adx codec; keys = keys_of number }

-- "and data type 0"
abbrev pub is_masked : Bool → ℕ → Bool
is_masked stream data-type = stream && eqb data-type 0

abbrev pub clear_video : Unmasking → ℕ → List ℕ → List ℕ
clear_video by data-type payload = cond (is_masked by.video data-type) (unmasked_video by.keys payload) payload

abbrev pub clear_audio : Unmasking → ℕ → List ℕ → List ℕ
clear_audio by data-type payload = cond (is_masked by.audio data-type) (masked_audio by.keys payload) payload

-- ---- a payload by itself: which mask it has, and the payload made clear under a key

abbrev pub video_mask : ℕ → Mask
video_mask data-type = cond (is_masked true data-type) VideoMask Clear

abbrev pub audio_mask : Option ℕ → ℕ → Mask
audio_mask codec data-type = cond (is_masked (is_adx codec) data-type) AudioMask Clear

abbrev pub cleared_by : ℕ → Mask → List ℕ → List ℕ
cleared_by number Clear payload = payload
cleared_by number VideoMask payload = unmasked_video (keys_of number) payload
cleared_by number AudioMask payload = masked_audio (keys_of number) payload

-- a mask by a number, ours for C: each number but 1 and 2 is none
abbrev pub mask_number : Mask → ℕ
mask_number Clear = 0
mask_number VideoMask = 1
mask_number AudioMask = 2

abbrev pub mask_by : ℕ → Mask
mask_by number = cond (eqb number 1) VideoMask (cond (eqb number 2) AudioMask Clear)
