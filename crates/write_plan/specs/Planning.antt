-- Rule W8: what is refused before an output is looked at. "Refusals: 23 for an audio codec given without audio, 11 for a result over the limit, then 15 marker at the
-- front of a payload".
use Rattle.std.specs.Prelude.{ℕ, List, [], ◌∷◌, Bool, true, false, not, cond, ◌||◌, ◌&&◌, length, ltb, Option, Some, None, Result, Ok, Err}
use Rattle.refusal.specs.declared.Refusal.{Refusal}
use Rattle.refusal.specs.declared.Cause.{Cause}
use Rattle.refusal.specs.declared.Cause.TheVariants.{TooLong, MarkedPayload, CodecAlone}
use Rattle.signature.specs.Signatures.{contents_end, stands_at}
use Rattle.write_plan.specs.declared.Packing.{Packing}
use Rattle.write_plan.specs.Payloads.{payloads_of}
use Rattle.write_plan.specs.Films.{film_bytes}
use Rattle.write_plan.specs.Sizes.{film_size}

-- "15, 16 and 19 to 23 have place 0", and so has 11
abbrev pub refused_by : Cause → Result ℕ Refusal
refused_by cause = Err (record { cause = cause; place = 0 })

-- "an audio codec given"
abbrev pub is_given : Option ℕ → Bool
is_given (Some n) = true
is_given None = false

-- "A payload that itself begins with the end marker would be skipped on reading"
unfoldable pub any_marked : List (List ℕ) → Bool
any_marked [] = false
any_marked (payload ∷ payloads) = stands_at contents_end payload 0 || any_marked payloads

-- a film of so many bytes, or that it is "over the limit": "container 1,073,741,824 bytes"
abbrev pub within_limit : ℕ → Result ℕ Refusal
within_limit size = cond (ltb 0x40000000 size) (refused_by TooLong) (Ok size)

-- a film's size by the lengths of its name and streams, or the first refusal, whatever they hold: 23, then 11
unfoldable pub sized_of : ℕ → ℕ → ℕ → Packing → Result ℕ Refusal
sized_of name video audio packing = cond (not packing.audio && is_given packing.audio_codec) (refused_by CodecAlone) (within_limit (film_size name video audio packing))

-- so many bytes of it, where the film is not refused
abbrev pub headed_by : ℕ → Result ℕ Refusal → Result ℕ Refusal
headed_by size (Ok film) = Ok size
headed_by size (Err refusal) = Err refusal

-- 15 comes after them, where a payload is marked
abbrev pub marked_by : Bool → Result ℕ Refusal → Result ℕ Refusal
marked_by marked (Ok film) = cond marked (refused_by MarkedPayload) (Ok film)
marked_by marked (Err refusal) = Err refusal

-- a film's size, or the first refusal
unfoldable pub planned_of : List ℕ → List ℕ → List ℕ → Packing → Result ℕ Refusal
planned_of name video audio packing =
    cond (not packing.audio && is_given packing.audio_codec) (refused_by CodecAlone)
    (cond (ltb 0x40000000 (length (film_bytes name video audio packing))) (refused_by TooLong)
    (cond (any_marked (payloads_of video) || any_marked (payloads_of audio)) (refused_by MarkedPayload)
    (Ok (length (film_bytes name video audio packing)))))
