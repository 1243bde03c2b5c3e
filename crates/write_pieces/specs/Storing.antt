-- Rules W6 and W8 for one payload: the mask that it has, the payload as it is stored, and 15.
use Rattle.std.specs.Prelude.{ℕ, ◌≡◌, List, cond, length, Option, Some, None, Result, Ok}
use Rattle.refusal.specs.declared.Refusal.{Refusal}
use Rattle.refusal.specs.declared.Cause.TheVariants.{MarkedPayload}
use Rattle.signature.specs.Signatures.{contents_end, stands_at}
use Rattle.key.specs.KeyTable.{keys_of}
use Rattle.mask.specs.Video.{masked_video}
use Rattle.mask.specs.Audio.{masked_audio}
use Rattle.unmasking.specs.declared.Mask.{Mask}
use Rattle.unmasking.specs.declared.Mask.TheVariants.{Clear, VideoMask, AudioMask}
use Rattle.unmasking.specs.Unmasking.{video_mask, audio_mask}
use Rattle.write_plan.specs.declared.Stream.{Stream}
use Rattle.write_plan.specs.declared.Stream.TheVariants.{Video, Audio}
use Rattle.write_plan.specs.Planning.{refused_by}

-- "payloads are masked as extraction unmasks", and "data type is 0"
abbrev pub mask_of : Stream → Option ℕ → Mask
mask_of Video codec = video_mask 0
mask_of Audio codec = audio_mask codec 0

abbrev pub mask_in : Option ℕ → Option ℕ → Stream → Mask
mask_in None codec stream = Clear
mask_in (Some number) codec stream = mask_of stream codec

-- a clear payload as it is stored under a key, by the mask that it has
abbrev pub stored_by : ℕ → Mask → List ℕ → List ℕ
stored_by number Clear payload = payload
stored_by number VideoMask payload = masked_video (keys_of number) payload
stored_by number AudioMask payload = masked_audio (keys_of number) payload

-- "15 marker at the front of a payload"; a refusal leaves it as it was
abbrev pub asked_of : List ℕ → Result ℕ Refusal
asked_of payload = cond (stands_at contents_end payload 0) (refused_by MarkedPayload) (Ok (length payload))

abbrev pub Storing : ℕ → Mask → List ℕ → Result ℕ Refusal → List ℕ → Type 0
Storing number mask payload r payload' = (r ≡ asked_of payload) × (payload' ≡ cond (stands_at contents_end payload 0) payload (stored_by number mask payload))
