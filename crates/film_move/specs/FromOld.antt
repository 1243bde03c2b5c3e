-- Rule O9: from the builder's container to request 1's. "Payloads travel as stored", so "no key is needed"; "the caller gives the codecs".
use Rattle.std.specs.Prelude.{ℕ, ◌≡◌, List, Bool, cond, length, ltb, Option, None, Result, Ok}
use Rattle.refusal.specs.declared.Refusal.{Refusal}
use Rattle.refusal.specs.declared.Cause.{Cause}
use Rattle.refusal.specs.declared.Cause.TheVariants.{TooLong, MarkedPayload, Foreign, ManyAudios}
use Rattle.lent.specs.Written.{written_in, left_by}
use Rattle.write_plan.specs.declared.Packing.{Packing}
use Rattle.write_plan.specs.Films.{film_bytes}
use Rattle.write_plan.specs.Planning.{refused_by, planned_of}
use Rattle.old_film.specs.Finding.{Parts, parts_of, is_old}
use Rattle.old_film_many.specs.Audios.{is_many}

-- the size of a film, or 11 and 15. It serves the contract of what plans by sizes
abbrev pub planned_as : ℕ → Bool → Result ℕ Refusal
planned_as size marked = cond (ltb 0x40000000 size) (refused_by TooLong) (cond marked (refused_by MarkedPayload) (Ok size))

-- "no key is needed"
abbrev pub packing_of : Bool → Option ℕ → Option ℕ → Packing
packing_of audio mpeg-codec audio-codec = record { audio = audio; mpeg_codec = mpeg-codec; audio_codec = audio-codec; key = None }

-- what request 1 writes from a film's parts, and what it answers before an output is looked at
abbrev pub new_bytes : Parts → Option ℕ → Option ℕ → List ℕ
new_bytes parts mpeg-codec audio-codec = film_bytes parts.name parts.read.video parts.read.audio (packing_of parts.audio mpeg-codec audio-codec)

abbrev pub new_plan : Parts → Option ℕ → Option ℕ → Result ℕ Refusal
new_plan parts mpeg-codec audio-codec = planned_of parts.name parts.read.video parts.read.audio (packing_of parts.audio mpeg-codec audio-codec)

-- "19 not exactly what that builder writes for one video and its audios ..; 20 more than one audio"
abbrev pub cause_of : List ℕ → Cause
cause_of container = cond (is_many container) ManyAudios Foreign

-- "Refusals, after 11: 19 ..; 20 ..; then 23, 11 for the result, 15 and 16"
unfoldable pub from_old : List ℕ → Option ℕ → Option ℕ → Result ℕ Refusal
from_old container mpeg-codec audio-codec =
    cond (ltb 0x40000000 (length container)) (refused_by TooLong)
    (cond (is_old container) (new_plan (parts_of container) mpeg-codec audio-codec) (refused_by (cause_of container)))

-- the answer, and the output after it
abbrev pub FromOld : List ℕ → Option ℕ → Option ℕ → List ℕ → Result ℕ Refusal → List ℕ → Type 0
FromOld container mpeg-codec audio-codec out r out' =
    (r ≡ written_in (length out) (from_old container mpeg-codec audio-codec)) × (out' ≡ left_by r out (new_bytes (parts_of container) mpeg-codec audio-codec))
