-- Which refusals a film can have, and what follows for those who ask about it. Each is proved under the same name in proofs/Promises.antt.
use Rattle.std.specs.Prelude.{ℕ, ◌+◌, ◌≤◌, ◌<◌, ◌≡◌, ◌↔◌, Bool, true, false, List, length, Option, Result, Ok, Err}
use Rattle.extract.specs.declared.Contents.{Contents}
use Rattle.refusal.specs.declared.Cause.{Cause}
use Rattle.refusal.specs.declared.Cause.TheVariants.{RanOut, NoFilm, NoTable, NoVideo, NoAudio, NoHeaderEnd, NoMetadataEnd, UnknownType, TooSmall, TooMany, TooLong, ShortOutput, ShortList, MarkedPayload, ShortRoom, ShortHeader, UnknownStorage, Foreign, ManyAudios, NoBeginning, BadTenants, CodecAlone}
use Rattle.refusal.specs.declared.Refusal.{Refusal}
use Rattle.refusal.specs.Numbers.{beside_of}
use Rattle.reading.specs.declared.Reading.{Reading}
use Rattle.header.specs.Headers.{header_of}
use Rattle.film.specs.Films.{refused, film_of}
use Rattle.extract.specs.Extraction.{Extraction}
use Rattle.list.specs.declared.ListReply.{ListReply}
use Rattle.tenants.specs.Promises.{OneToSixteen}
use Rattle.statement.specs.Statements.{Stated}

-- the causes that a container can have by itself: 1 to 11, 17 and 18
abbrev pub is_of_afilm : Cause → Bool
is_of_afilm RanOut = true
is_of_afilm NoFilm = true
is_of_afilm NoTable = true
is_of_afilm NoVideo = true
is_of_afilm NoAudio = true
is_of_afilm NoHeaderEnd = true
is_of_afilm NoMetadataEnd = true
is_of_afilm (UnknownType kind) = true
is_of_afilm TooSmall = true
is_of_afilm TooMany = true
is_of_afilm TooLong = true
is_of_afilm (ShortOutput video audio) = false
is_of_afilm (ShortList count) = false
is_of_afilm MarkedPayload = false
is_of_afilm (ShortRoom size) = false
is_of_afilm ShortHeader = true
is_of_afilm UnknownStorage = true
is_of_afilm Foreign = false
is_of_afilm ManyAudios = false
is_of_afilm NoBeginning = false
is_of_afilm BadTenants = false
is_of_afilm CodecAlone = false

-- A container is refused for what it is by 1 to 11, 17 and 18, and by no other number, in every reading.
abbrev pub FilmsRefuseByThese : Type 0
FilmsRefuseByThese = (container : List ℕ) (reading : Reading) (refusal : Refusal) → film_of container reading ≡ refused refusal → is_of_afilm refusal.cause ≡ true

-- both sizes that an answer tells: those of the film, or those beside 12; none beside another number
abbrev pub sizes_told : Result Contents Refusal → ℕ
sizes_told (Ok contents) = contents.video_size + contents.audio_size
sizes_told (Err refusal) = (beside_of refusal.cause).video_size + (beside_of refusal.cause).audio_size

-- Request 10, "the sizes of the two streams together never exceed the container, in both payload modes and for every channel choice": so says every answer, also the one with 12,
-- by whose sizes a caller makes room
abbrev pub SizesToldFit : Type 0
SizesToldFit =
    (container : List ℕ) (reading : Reading) (key : Option ℕ) (video audio video_after audio_after : List ℕ) (r : Result Contents Refusal)
    → Extraction container reading key video audio r video_after audio_after → sizes_told r ≤ length container

-- "22 no tenant, over 16, or a number twice": of a container within the limit a statement is refused by 22 exactly when there are not 1 to 16 tenants with different numbers.
abbrev pub TwentyTwoExactlyWhen : Type 0
TwentyTwoExactlyWhen =
    (container : List ℕ) (tenants lines lines' : List (List ℕ)) (r : ListReply) → Stated container tenants lines r lines' → length container ≤ 0x40000000
    → (r.number ≡ 22) ↔ (OneToSixteen tenants → ⊥)
