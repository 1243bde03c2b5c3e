-- What moving a film to request 1's container and back promises. Each is proved under the same name in proofs/Promises.antt.
use Rattle.std.specs.Prelude.{ℕ, ◌≤◌, ◌<◌, ◌≡◌, List, [], Bool, true, false, length, take, drop, Option, Result, Ok, Err}
use Rattle.extract.specs.declared.Contents.{Contents}
use Rattle.std.proofs.lemmas.List.Edits.{sets}
use Rattle.refusal.specs.declared.Cause.{Cause}
use Rattle.refusal.specs.declared.Cause.TheVariants.{Foreign, ManyAudios}
use Rattle.refusal.specs.declared.Refusal.{Refusal}
use Rattle.lent.specs.Written.{written_in, left_by}
use Rattle.utf8.specs.Utf8.{is_utf8}
use Rattle.reading.specs.declared.Reading.{Reading}
use Rattle.reading.specs.Choices.{takes_channel}
use Rattle.extract.specs.Extraction.{Extraction}
use Rattle.write_plan.specs.declared.Packing.{Packing}
use Rattle.write_plan.specs.declared.Stream.TheVariants.{Video, Audio}
use Rattle.write_plan.specs.Planning.{refused_by}
use Rattle.write.specs.Writing.{Writing}
use Rattle.promises_write.specs.Promises.{CodecFits, GivesBack, stored_in}
use Rattle.old_film.specs.Films.{old_bytes}
use Rattle.old_film.specs.Finding.{audios_of}
use Rattle.moved_film.specs.Finding.{parts_of}
use Rattle.film_move.specs.FromOld.{packing_of, FromOld}
use Rattle.film_move.specs.ToOld.{ToOld}

-- an answer, and an output after it, that give bytes: they are as many as it says, and stand at the output's front
abbrev pub Gives : List ℕ → List ℕ → Result ℕ Refusal → List ℕ → Type 0
Gives bytes out r out' = (r ≡ Ok (length bytes)) × (out' ≡ sets out 0 bytes)

-- "Old to new to old gives the first bytes exactly": whatever film is moved, with whatever codecs, each result that meets the contract of the way back on the written
-- bytes, into an output of the film's length or longer, gives the film
abbrev pub OldAgain : Type 0
OldAgain =
    (film : List ℕ) (mpeg-codec audio-codec : Option ℕ) (out out' : List ℕ) (size : ℕ) (back back' : List ℕ) (r : Result ℕ Refusal)
    → FromOld film mpeg-codec audio-codec out (Ok size) out' → length film ≤ length back → ToOld (take size out') back r back' → Gives film back r back'

-- "new to old to new does so, given the same codecs, for containers that this move wrote": whatever container is moved back, each result that meets the contract of the way
-- onward on the written bytes, with the container's codecs, into an output of its length or longer, gives the container
abbrev pub NewAgain : Type 0
NewAgain =
    (container out out' : List ℕ) (size : ℕ) (back back' : List ℕ) (r : Result ℕ Refusal)
    → ToOld container out (Ok size) out' → length container ≤ length back
    → FromOld (take size out') (parts_of container).packing.mpeg_codec (parts_of container).packing.audio_codec back r back' → Gives container back r back'

-- ---- what is refused by 19 and 20

-- the builder writes a container: for some name in UTF-8, a video and audios
abbrev pub Built : List ℕ → Type 0
Built container = (name : List ℕ) × ((video : List ℕ) × ((audios : List (List ℕ)) × ((is_utf8 name ≡ true) × (container ≡ old_bytes name video audios))))

-- an answer that refuses at place 0, and leaves the output
abbrev pub RefusesBy : Cause → List ℕ → Result ℕ Refusal → List ℕ → Type 0
RefusesBy cause out r out' = (r ≡ refused_by cause) × (out' ≡ out)

-- "19 not exactly what that builder writes for one video and its audios": of containers within the limit, each that it does not write is refused by 19
abbrev pub ForeignIsNotBuilt : Type 0
ForeignIsNotBuilt =
    (container : List ℕ) (mpeg-codec audio-codec : Option ℕ) (out out' : List ℕ) (r : Result ℕ Refusal) → FromOld container mpeg-codec audio-codec out r out'
    → length container ≤ 0x40000000 → (Built container → ⊥) → RefusesBy Foreign out r out'

-- "20 more than one audio": each that it writes for several audios is refused by 20
abbrev pub SeveralAreRefused : Type 0
SeveralAreRefused =
    (name video : List ℕ) (audios : List (List ℕ)) (mpeg-codec audio-codec : Option ℕ) (out out' : List ℕ) (r : Result ℕ Refusal)
    → is_utf8 name ≡ true → 1 < length audios → length (old_bytes name video audios) ≤ 0x40000000
    → FromOld (old_bytes name video audios) mpeg-codec audio-codec out r out' → RefusesBy ManyAudios out r out'

-- "then 23, 11 for the result, 15 and 16": for each that it writes for one audio, or none, the answer and the output are those of request 1 for the same name and streams,
-- without a key
abbrev pub OthersAreWritten : Type 0
OthersAreWritten =
    (name video : List ℕ) (audio : Bool) (sound : List ℕ) (mpeg-codec audio-codec : Option ℕ) (out out' : List ℕ) (r : Result ℕ Refusal)
    → is_utf8 name ≡ true → (audio ≡ false → sound ≡ []) → length (old_bytes name video (audios_of audio sound)) ≤ 0x40000000
    → FromOld (old_bytes name video (audios_of audio sound)) mpeg-codec audio-codec out r out' → Writing name video sound (packing_of audio mpeg-codec audio-codec) out r out'

-- a film of the builder, by what it was built from: a name in UTF-8, a video, whether there is audio, and the audio
pub record BuiltFrom (film : List ℕ) : Type 0 where
  pub name : List ℕ
  pub video : List ℕ
  pub audio : Bool
  pub sound : List ℕ
  pub utf8 : is_utf8 name ≡ true
  pub silent : audio ≡ false → sound ≡ []
  pub whole : film ≡ old_bytes name video (audios_of audio sound)

-- Whatever is moved is such a film, and what is written is what request 1 writes for its name and streams, without a key.
abbrev pub MovedIsWritten : Type 0
MovedIsWritten =
    (film : List ℕ) (mpeg-codec audio-codec : Option ℕ) (out out' : List ℕ) (size : ℕ) → FromOld film mpeg-codec audio-codec out (Ok size) out'
    → (from : BuiltFrom film) × Writing from.name from.video from.sound (packing_of from.audio mpeg-codec audio-codec) out (Ok size) out'

-- "Payloads travel as stored": a film of the builder whose payloads are masked under a key, or under none, moved with the codecs of a packing, is extracted under that key, and
-- with audio taken, to its name, these codecs and both streams in the clear
abbrev pub MovedIsRead : Type 0
MovedIsRead =
    (name video sound : List ℕ) (packing : Packing) (out out' : List ℕ) (size : ℕ) (reading : Reading) (seen heard seen' heard' : List ℕ) (r : Result Contents Refusal)
    → is_utf8 name ≡ true → (packing.audio ≡ false → sound ≡ []) → CodecFits packing.mpeg_codec → CodecFits packing.audio_codec
    → FromOld (old_bytes name (stored_in packing Video video) (audios_of packing.audio (stored_in packing Audio sound))) packing.mpeg_codec packing.audio_codec out (Ok size) out'
    → takes_channel reading.audio 0 ≡ true → length video ≤ length seen → length sound ≤ length heard
    → Extraction (take size out') reading packing.key seen heard r seen' heard'
    → GivesBack name video sound packing (take size out') seen heard r seen' heard'

-- ---- and back

-- the answer and the output where the builder's film is to be written: all of it, or 16
abbrev pub BuiltInto : List ℕ → List ℕ → Result ℕ Refusal → List ℕ → Type 0
BuiltInto film out r out' = (r ≡ written_in (length out) (Ok (length film))) × (out' ≡ left_by r out film)

-- the same back: what request 1 writes for a name in UTF-8, with a key or without one, is moved back to what the builder writes for that name and for the streams as they are
-- stored
abbrev pub WrittenGoesBack : Type 0
WrittenGoesBack =
    (name video audio : List ℕ) (packing : Packing) (out out' : List ℕ) (size : ℕ) (back back' : List ℕ) (r : Result ℕ Refusal)
    → is_utf8 name ≡ true → CodecFits packing.mpeg_codec → CodecFits packing.audio_codec
    → Writing name video audio packing out (Ok size) out' → ToOld (take size out') back r back'
    → BuiltInto (old_bytes name (stored_in packing Video video) (audios_of packing.audio (stored_in packing Audio audio))) back r back'

-- the move writes a container: from some film, with some codecs, wherever there is room for it
abbrev pub Moved : List ℕ → Type 0
Moved container =
    (film : List ℕ) × ((mpeg-codec : Option ℕ) × ((audio-codec : Option ℕ)
    × ((out out' : List ℕ) (r : Result ℕ Refusal) → length container ≤ length out → FromOld film mpeg-codec audio-codec out r out' → Gives container out r out')))

-- "19 .. a container the move did not write": of a container that it writes the film of the builder is written, and of those within the limit every other is refused by 19
abbrev pub ForeignIsNotMoved : Type 0
ForeignIsNotMoved =
    (container out out' : List ℕ) (r : Result ℕ Refusal) → ToOld container out r out' → length container ≤ 0x40000000
    → (Moved container → (film : List ℕ) × (Built film × BuiltInto film out r out')) × ((Moved container → ⊥) → RefusesBy Foreign out r out')

-- the builder's film is never longer than the container that it is moved to, so that the way back has no 11 for its result
abbrev pub OldIsShorter : Type 0
OldIsShorter =
    ((film : List ℕ) (mpeg-codec audio-codec : Option ℕ) (out out' : List ℕ) (size : ℕ) → FromOld film mpeg-codec audio-codec out (Ok size) out' → length film ≤ size)
    × ((container out out' : List ℕ) (size : ℕ) → ToOld container out (Ok size) out' → size ≤ length container)

-- "every refusal leaves the output"
abbrev pub RefusalsLeaveTheOutput : Type 0
RefusalsLeaveTheOutput =
    (refusal : Refusal) (out out' : List ℕ)
    → ((film : List ℕ) (mpeg-codec audio-codec : Option ℕ) → FromOld film mpeg-codec audio-codec out (Err refusal) out' → out' ≡ out)
    × ((container : List ℕ) → ToOld container out (Err refusal) out' → out' ≡ out)

-- bytes past the size stay, both ways: the output is as long as before, and from the size on it is the same
abbrev pub BytesPastTheSizeStay : Type 0
BytesPastTheSizeStay =
    (out out' : List ℕ) (size : ℕ)
    → ((film : List ℕ) (mpeg-codec audio-codec : Option ℕ) → FromOld film mpeg-codec audio-codec out (Ok size) out' → (length out' ≡ length out) × (drop size out' ≡ drop size out))
    × ((container : List ℕ) → ToOld container out (Ok size) out' → (length out' ≡ length out) × (drop size out' ≡ drop size out))
