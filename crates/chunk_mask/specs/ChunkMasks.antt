-- Rule C7 without the key: a payload "is unmasked only with a key and data type 0, audio only if `audio_codec` is 2."
use Rattle.std.specs.Prelude.{ℕ, Option}
use Rattle.chunk.specs.declared.Kind.{Kind}
use Rattle.chunk.specs.declared.Kind.TheVariants.{Video, Audio, Other, End}
use Rattle.unmasking.specs.declared.Mask.{Mask}
use Rattle.unmasking.specs.declared.Mask.TheVariants.{Clear}
use Rattle.unmasking.specs.Unmasking.{video_mask, audio_mask}

-- which mask the payload of a chunk has, in a film whose audio codec this is
abbrev pub mask_of : Option ℕ → Kind → ℕ → Mask
mask_of codec Video data-type = video_mask data-type
mask_of codec Audio data-type = audio_mask codec data-type
mask_of codec Other data-type = Clear
mask_of codec End data-type = Clear
