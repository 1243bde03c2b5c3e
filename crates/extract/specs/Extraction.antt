-- Rules R: extraction. "11 comes first; then the walk's first refusal in reading order; then, for extraction," 12. 14 is struck: it cannot occur.
use Rattle.std.specs.Prelude.{ℕ, ◌+◌, ◌≤◌, ◌≡◌, List, [], cond, ◌||◌, length, ltb, Option, Result, Ok, Err}
use Rattle.film.specs.declared.Surveyed.{Surveyed}
use Rattle.refusal.specs.declared.Refusal.{Refusal}
use Rattle.std.proofs.lemmas.List.Edits.{sets}
use Rattle.refusal.specs.declared.Cause.{Cause}
use Rattle.refusal.specs.declared.Cause.TheVariants.{ShortOutput}
use Rattle.reading.specs.declared.Reading.{Reading}
use Rattle.codec.specs.Kinds.{video_kind, audio_kind}
use Rattle.unmasking.specs.Unmasking.{unmasking_of}
use Rattle.header.specs.declared.Header.{Header}
use Rattle.film.specs.Films.{Film, film, refused, film_of, survey_of}
use Rattle.extract.specs.declared.Contents.{Contents}
use Rattle.extract.specs.Streams.{video_stream, audio_stream}

-- "Success returns the name .., whether there is audio, `mpeg_codec` and `audio_codec` (each may be absent), the kinds .., and both sizes."
abbrev pub contents_of : Header → ℕ → ℕ → Contents
contents_of header video audio =
    record { name = header.name; audio = header.audio; mpeg_codec = header.mpeg_codec; audio_codec = header.audio_codec; video_kind = video_kind header.mpeg_codec; audio_kind = audio_kind header.audio_codec; video_size = video; audio_size = audio }

-- "0 for 2 and 11 to" 13
abbrev pub refused_by : Cause → Result Contents Refusal
refused_by cause = Err (record { cause = cause; place = 0 })

-- 12, "video or audio output too short", with "both sizes needed"
abbrev pub extracted_in : ℕ → ℕ → Result Surveyed Refusal → Result Contents Refusal
extracted_in video_room audio_room (Ok survey) =
    cond (ltb video_room survey.video || ltb audio_room survey.audio) (refused_by (ShortOutput survey.video survey.audio)) (Ok (contents_of survey.header survey.video survey.audio))
extracted_in video_room audio_room (Err refusal) = Err refusal

-- the answer on a container, into two outputs. No key is asked
abbrev pub extracted_of : List ℕ → Reading → List ℕ → List ℕ → Result Contents Refusal
extracted_of container reading video audio = extracted_in (length video) (length audio) (survey_of (film_of container reading))

-- both streams of a film under a key
abbrev pub video_of : List ℕ → Option ℕ → Film → List ℕ
video_of container key (film header applied chunks) = video_stream container (unmasking_of key header.audio_codec) chunks
video_of container key (refused refusal) = []

abbrev pub audio_of : List ℕ → Option ℕ → Film → List ℕ
audio_of container key (film header applied chunks) = audio_stream container (unmasking_of key header.audio_codec) chunks
audio_of container key (refused refusal) = []

-- "Every refusal leaves both outputs .. unchanged"; "Bytes .. past a size .. stay unchanged."
abbrev pub left_by : Result Contents Refusal → List ℕ → List ℕ → List ℕ
left_by (Ok contents) out stream = sets out 0 stream
left_by (Err refusal) out stream = out

-- "the sizes of the two streams together never exceed the container"
abbrev pub SizesWithin : List ℕ → Result Contents Refusal → Type 0
SizesWithin container (Ok contents) = contents.video_size + contents.audio_size ≤ length container
SizesWithin container (Err refusal) = Unit

-- the answer to an extraction and both outputs after it. Only the streams take the key. "The bound becomes part of extraction's promise"
abbrev pub Extraction : List ℕ → Reading → Option ℕ → List ℕ → List ℕ → Result Contents Refusal → List ℕ → List ℕ → Type 0
Extraction container reading key video audio r video' audio' =
    (r ≡ extracted_of container reading video audio)
    × (video' ≡ left_by r video (video_of container key (film_of container reading)))
    × (audio' ≡ left_by r audio (audio_of container key (film_of container reading)))
    × SizesWithin container r
