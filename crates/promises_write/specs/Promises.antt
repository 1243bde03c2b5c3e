-- That what is written is read back. Each is proved under the same name in proofs/Promises.antt.
use Rattle.std.specs.Prelude.{ℕ, ◌^◌, ◌≤◌, ◌<◌, ◌≡◌, ◌↔◌, List, [], ◌∷◌, ◌++◌, true, cond, length, take, drop, eqb, Option, Some, None, Result, Ok, Err}
use Rattle.std.proofs.lemmas.List.Edits.{sets}
use Rattle.refusal.specs.declared.Refusal.{Refusal}
use Rattle.reading.specs.declared.Reading.{Reading}
use Rattle.reading.specs.Choices.{takes_channel, applied_to}
use Rattle.key.specs.CountingBits.{AgreeWhereItCounts}
use Rattle.unmasking.specs.declared.Unmasking.{Unmasking}
use Rattle.unmasking.specs.Unmasking.{unmasking_of}
use Rattle.part.specs.Parts.{part_at}
use Rattle.film.specs.Films.{film, film_of}
use Rattle.extract.specs.declared.Contents.{Contents}
use Rattle.extract.specs.Extraction.{contents_of, Extraction}
use Rattle.write_plan.specs.declared.Stream.{Stream}
use Rattle.write_plan.specs.declared.Stream.TheVariants.{Video, Audio}
use Rattle.write_plan.specs.Payloads.{payloads_of, stored_as}
use Rattle.write_plan.specs.Films.{bytes_of, header_blocks, audio_in}
use Rattle.write.specs.Writing.{Writing}
use Rattle.promises_write.specs.Listing.{lines_of, chunks_from}
use Rattle.header.specs.declared.Header.{Header}
use Rattle.write_plan.specs.declared.Packing.{Packing}

-- a codec's number has 32 bits, as its type says
abbrev pub CodecFits : Option ℕ → Type 0
CodecFits (Some n) = n < 2 ^ 32
CodecFits None = Unit

-- where the name starts: behind the header of its block, that of its table, the column, the cell and the column's name. An empty one is given as starting at 0
abbrev pub name_start : List ℕ → ℕ
name_start name = cond (eqb (length name) 0) 0 86

-- the header of such a film, whose chunks begin at `start`
abbrev pub header_back : List ℕ → Packing → ℕ → Header
header_back name packing start =
    record { name = Some (record { start = name_start name; len = length name }); mpeg_codec = packing.mpeg_codec; audio = packing.audio; audio_codec = packing.audio_codec; start = start }

-- what extraction answers for it
abbrev pub contents_back : List ℕ → List ℕ → List ℕ → Packing → Contents
contents_back name video audio packing = contents_of (header_back name packing 0) (length video) (length audio)

-- the answer to an extraction, and both outputs after it, that give back what was written: the name, as a part of the container and its bytes, whether there is audio,
-- both codecs, and both streams
abbrev pub GivesBack : List ℕ → List ℕ → List ℕ → Packing → List ℕ → List ℕ → List ℕ → Result Contents Refusal → List ℕ → List ℕ → Type 0
GivesBack name video audio packing container seen heard r seen' heard' =
    (r ≡ Ok (contents_back name video audio packing)) × (part_at container (name_start name) (length name) ≡ name) × (seen' ≡ sets seen 0 video)
    × (heard' ≡ sets heard 0 audio)

-- "Extracting with the same key and audio chosen must return the same name, codecs, presence of audio and streams": whatever is written, each result that meets
-- extraction's contract on the written bytes, into outputs of the streams' lengths or longer, gives it back. With no key in both, too. Audio
-- is written as channel 0: it is read back with all audio and with that channel
abbrev pub ReadingBack : Type 0
ReadingBack =
    (name video audio : List ℕ) (packing : Packing) (out out' : List ℕ) (size : ℕ) (reading : Reading) (seen heard seen' heard' : List ℕ) (r : Result Contents Refusal)
    → CodecFits packing.mpeg_codec → CodecFits packing.audio_codec → Writing name video audio packing out (Ok size) out' → takes_channel reading.audio 0 ≡ true
    → length video ≤ length seen → length (audio_in packing audio) ≤ length heard
    → Extraction (take size out') reading packing.key seen heard r seen' heard'
    → GivesBack name video (audio_in packing audio) packing (take size out') seen heard r seen' heard'

-- and so does a key that agrees with the one that it was written with in bits 0 to 35 and 40 to 55
abbrev pub ReadingBackWhereBitsAgree : Type 0
ReadingBackWhereBitsAgree =
    (name video audio : List ℕ) (packing : Packing) (out out' : List ℕ) (size key key' : ℕ) (reading : Reading) (seen heard seen' heard' : List ℕ) (r : Result Contents Refusal)
    → CodecFits packing.mpeg_codec → CodecFits packing.audio_codec → Writing name video audio packing out (Ok size) out' → takes_channel reading.audio 0 ≡ true
    → length video ≤ length seen → length (audio_in packing audio) ≤ length heard → packing.key ≡ Some key → AgreeWhereItCounts key key'
    → Extraction (take size out') reading (Some key') seen heard r seen' heard'
    → GivesBack name video (audio_in packing audio) packing (take size out') seen heard r seen' heard'

-- the listing of what is written: the film that the written bytes are has the payloads by turns, and then the ends, from where the header's blocks end
abbrev pub ListingBack : Type 0
ListingBack =
    (name video audio : List ℕ) (packing : Packing) (out out' : List ℕ) (size : ℕ) (reading : Reading)
    → CodecFits packing.mpeg_codec → CodecFits packing.audio_codec → Writing name video audio packing out (Ok size) out' → takes_channel reading.audio 0 ≡ true
    → film_of (take size out') reading
    ≡ film (header_back name packing (length (bytes_of (header_blocks name packing)))) (applied_to packing.audio reading)
    (chunks_from (length (bytes_of (header_blocks name packing))) (lines_of video (audio_in packing audio) packing.audio))

-- "outputs untouched": a refusal leaves the output as it was
abbrev pub RefusalsLeaveTheOutput : Type 0
RefusalsLeaveTheOutput =
    (name video audio : List ℕ) (packing : Packing) (out out' : List ℕ) (refusal : Refusal) → Writing name video audio packing out (Err refusal) out' → out' ≡ out

-- bytes past the film stay: the output is as long as before, and from the size on it is the same
abbrev pub BytesPastTheFilmStay : Type 0
BytesPastTheFilmStay =
    (name video audio : List ℕ) (packing : Packing) (out out' : List ℕ) (size : ℕ) → Writing name video audio packing out (Ok size) out'
    → (length out' ≡ length out) × (drop size out' ≡ drop size out)

-- a packing with a key in place of its own, or with none
abbrev pub with_key : Option ℕ → Packing → Packing
with_key key packing = record { audio = packing.audio; mpeg_codec = packing.mpeg_codec; audio_codec = packing.audio_codec; key = key }

-- "no key and no lack of one changes a refusal .., size": whatever the key, the same film is answered alike, into outputs of the same length
abbrev pub NoKeyChangesTheAnswer : Type 0
NoKeyChangesTheAnswer =
    (name video audio : List ℕ) (packing : Packing) (key : Option ℕ) (out out' room room' : List ℕ) (r r' : Result ℕ Refusal) → length out ≡ length room
    → Writing name video audio packing out r out' → Writing name video audio (with_key key packing) room r' room' → r ≡ r'

-- payloads as they are stored, one after the other
unfoldable pub stored_from : Unmasking → Stream → List (List ℕ) → List ℕ
stored_from by stream [] = []
stored_from by stream (payload ∷ payloads) = stored_as by stream payload ++ stored_from by stream payloads

-- a stream as it stands in a film: each payload masked by itself, if there is a key
abbrev pub stored_in : Packing → Stream → List ℕ → List ℕ
stored_in packing stream bytes = stored_from (unmasking_of packing.key packing.audio_codec) stream (payloads_of bytes)

abbrev pub without_key : Packing → Packing
without_key packing = with_key None packing

-- A film that is written with a key is, byte for byte, the one that is written without a key from its streams as they are stored; what is refused is refused alike.
abbrev pub KeyedIsStored : Type 0
KeyedIsStored =
    (name video audio : List ℕ) (packing : Packing) (out out' : List ℕ) (r : Result ℕ Refusal)
    → Writing name video audio packing out r out' ↔ Writing name (stored_in packing Video video) (stored_in packing Audio audio) (without_key packing) out r out'
