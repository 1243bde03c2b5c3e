-- What is promised of the functions for C, on the replies that they give and on what they leave in outputs. Each is proved under the same name in proofs/Promises.antt.
use Rattle.std.specs.Prelude.{ℕ, ◌+◌, ◌≤◌, ◌≡◌, true, false, ◌↔◌, ◌⊎◌, List, [], length, take, drop, Option, Some, Ok}
use Rattle.std.proofs.lemmas.List.Edits.{sets}
use Rattle.part.specs.Parts.{part_at}
use Rattle.reading.specs.declared.TableMode.{TableMode}
use Rattle.reading.specs.declared.Reading.{Reading}
use Rattle.reading.specs.Choices.{takes_channel}
use Rattle.key.specs.LaneBits.{AgreeIn}
use Rattle.film.specs.Films.{film_of}
use Rattle.replies.specs.declared.FilmReply.{FilmReply}
use Rattle.replies.specs.FilmReplies.{film_reply}
use Rattle.lent.specs.declared.SizeReply.{SizeReply}
use Rattle.lent.specs.Written.{size_reply}
use Rattle.write_plan.specs.declared.Packing.{Packing}
use Rattle.write_plan.specs.Films.{audio_in}
use Rattle.write_plan.specs.declared.Stream.TheVariants.{Video, Audio}
use Rattle.promises_write.specs.Promises.{CodecFits, contents_back, stored_in}
use Rattle.utf8.specs.Utf8.{is_utf8}
use Rattle.old_film.specs.Films.{old_bytes}
use Rattle.old_film.specs.Finding.{audios_of}
use Rattle.salvage.specs.declared.SalvageReply.{SalvageReply}
use Rattle.salvage.specs.Salvage.{accepted, salvage_of, salvage_reply}
use Rattle.csv_text.specs.Reading.{records_in}
use Rattle.table_csv.specs.Writing.{texts_at}
use Rattle.profile.specs.declared.ProfileReply.{ProfileReply}
use Rattle.profile.specs.Profiles.{profile_of, profile_reply}
use Rattle.key_shown.specs.declared.KeyBitsReply.{KeyBitsReply}
use Rattle.key_shown.specs.KeyBits.{key_bits_in, key_bits_reply}
use Rattle.moved_film.specs.Finding.{parts_of}
use Rattle.usm.specs.declared.moving.CodecBytes.{CodecBytes}
use Rattle.usm.specs.Exports.{FilmReplied}
use Rattle.usm.specs.Writes.{WrittenFor}
use Rattle.usm.specs.Tables.{CsvFor}
use Rattle.usm.specs.Moves.{video_codec, audio_codec, FromOldFor, ToOldFor}

-- ---- a refusal leaves the output

-- a number other than 0 leaves the output as it was
abbrev pub Leaves : SizeReply → List ℕ → List ℕ → Type 0
Leaves r out out' = (r.number ≡ 0 → ⊥) → out' ≡ out

-- A refusal of `usm_write` leaves its output as it was.
abbrev pub WriteLeavesTheOutput : Type 0
WriteLeavesTheOutput = (name video audio : List ℕ) (packing : Packing) (out out' : List ℕ) (r : SizeReply) → WrittenFor name video audio packing out r out' → Leaves r out out'

-- A refusal of `usm_csv` leaves its output as it was.
abbrev pub CsvLeavesTheOutput : Type 0
CsvLeavesTheOutput = (bytes : List ℕ) (place : ℕ) (m : TableMode) (out out' : List ℕ) (r : SizeReply) → CsvFor bytes place m out r out' → Leaves r out out'

-- A refusal of `usm_from_old` leaves its output as it was.
abbrev pub FromOldLeavesTheOutput : Type 0
FromOldLeavesTheOutput = (container : List ℕ) (asked : CodecBytes) (out out' : List ℕ) (r : SizeReply) → FromOldFor container asked out r out' → Leaves r out out'

-- A refusal of `usm_to_old` leaves its output as it was.
abbrev pub ToOldLeavesTheOutput : Type 0
ToOldLeavesTheOutput = (container out out' : List ℕ) (r : SizeReply) → ToOldFor container out r out' → Leaves r out out'

-- ---- bytes past a size

-- number 0: the output is as long as before, and from the size on it is the same
abbrev pub KeepsTheRest : SizeReply → List ℕ → List ℕ → Type 0
KeepsTheRest r out out' = r.number ≡ 0 → (length out' ≡ length out) × (drop r.size out' ≡ drop r.size out)

-- `usm_write`, `usm_csv`, `usm_from_old` and `usm_to_old` change no byte past the size that they reply.
abbrev pub BytesPastTheSizeStay : Type 0
BytesPastTheSizeStay =
    ((name video audio : List ℕ) (packing : Packing) (out out' : List ℕ) (r : SizeReply) → WrittenFor name video audio packing out r out' → KeepsTheRest r out out')
    × ((bytes : List ℕ) (place : ℕ) (m : TableMode) (out out' : List ℕ) (r : SizeReply) → CsvFor bytes place m out r out' → KeepsTheRest r out out')
    × ((container : List ℕ) (asked : CodecBytes) (out out' : List ℕ) (r : SizeReply) → FromOldFor container asked out r out' → KeepsTheRest r out out')
    × ((container out out' : List ℕ) (r : SizeReply) → ToOldFor container out r out' → KeepsTheRest r out out')

-- ---- a film that is read

-- Request 10: both sizes that `usm_extract` replies together never exceed the container: for every reading, and with every number, 12 too.
abbrev pub EverySizeFits : Type 0
EverySizeFits =
    (container : List ℕ) (reading : Reading) (key : Option ℕ) (fallback video audio : List ℕ) (r : FilmReply) (video_after audio_after : List ℕ)
    → FilmReplied container reading key fallback video audio r video_after audio_after → r.video_size + r.audio_size ≤ length container

-- What `usm_salvage` keeps is accepted, with what it drops it is the container, and why it was cut is 0 where nothing was, else 1 or 9.
abbrev pub KeptIsAccepted : Type 0
KeptIsAccepted =
    (container : List ℕ) (r : SalvageReply) → r ≡ salvage_reply (salvage_of container) → r.number ≡ 0
    → (accepted (take r.kept container) ≡ true) × (r.kept + r.dropped ≡ length container)
    × (((r.kept ≡ length container) × (r.dropped ≡ 0) × (r.cause ≡ 0)) ⊎ ((r.cause ≡ 1) ⊎ (r.cause ≡ 9)))

-- ---- a film that is written

-- what `usm_extract` replies and leaves where it gives back a film: name, codecs, whether there is audio, both streams
abbrev pub RepliesBack : List ℕ → List ℕ → List ℕ → Packing → List ℕ → List ℕ → List ℕ → List ℕ → FilmReply → List ℕ → List ℕ → Type 0
RepliesBack name video audio packing container fallback seen heard r seen' heard' =
    (r ≡ film_reply (length fallback) (Ok (contents_back name video audio packing))) × (part_at container r.name_start r.name_length ≡ name)
    × (seen' ≡ sets seen 0 video) × (heard' ≡ sets heard 0 audio)

-- What `usm_write` writes, `usm_extract` reads back with audio taken, under the same key or without one in both.
abbrev pub WrittenIsReadBack : Type 0
WrittenIsReadBack =
    (name video audio : List ℕ) (packing : Packing) (out out' : List ℕ) (r : SizeReply) (reading : Reading) (fallback seen heard seen' heard' : List ℕ) (r' : FilmReply)
    → CodecFits packing.mpeg_codec → CodecFits packing.audio_codec
    → WrittenFor name video audio packing out r out' → r.number ≡ 0 → takes_channel reading.audio 0 ≡ true
    → length video ≤ length seen → length (audio_in packing audio) ≤ length heard
    → FilmReplied (take r.size out') reading packing.key fallback seen heard r' seen' heard'
    → RepliesBack name video (audio_in packing audio) packing (take r.size out') fallback seen heard r' seen' heard'

-- And `usm_profile` finds it plain.
abbrev pub WrittenIsPlain : Type 0
WrittenIsPlain =
    (name video audio : List ℕ) (packing : Packing) (out out' : List ℕ) (r : SizeReply) (r' : ProfileReply)
    → CodecFits packing.mpeg_codec → CodecFits packing.audio_codec
    → WrittenFor name video audio packing out r out' → r.number ≡ 0
    → r' ≡ profile_reply (profile_of (take r.size out')) → (r'.number ≡ 0) × (r'.rule ≡ 0)

-- ---- a table as CSV

-- What `usm_csv` writes is read back by the RFC's rules as the texts of the table, name by name and cell by cell.
abbrev pub CsvIsReadBack : Type 0
CsvIsReadBack =
    (bytes : List ℕ) (place : ℕ) (m : TableMode) (out out' : List ℕ) (r : SizeReply)
    → CsvFor bytes place m out r out' → r.number ≡ 0 → records_in (take r.size out') ≡ texts_at bytes place m

-- ---- a film of the old builder

-- so many bytes stand at the output's front, and the reply says how many
abbrev pub Gives : List ℕ → List ℕ → SizeReply → List ℕ → Type 0
Gives bytes out r out' = (r ≡ size_reply (Ok (length bytes))) × (out' ≡ sets out 0 bytes)

-- What `usm_from_old` moves, with whatever codecs, `usm_to_old` gives back.
abbrev pub OldAgain : Type 0
OldAgain =
    (film : List ℕ) (asked : CodecBytes) (out out' : List ℕ) (r : SizeReply) (back back' : List ℕ) (r' : SizeReply)
    → FromOldFor film asked out r out' → r.number ≡ 0 → length film ≤ length back → ToOldFor (take r.size out') back r' back' → Gives film back r' back'

-- What `usm_to_old` moves, `usm_from_old` gives back, with the codecs that the container has.
abbrev pub NewAgain : Type 0
NewAgain =
    (container : List ℕ) (asked : CodecBytes) (out out' : List ℕ) (r : SizeReply) (back back' : List ℕ) (r' : SizeReply)
    → video_codec asked ≡ (parts_of container).packing.mpeg_codec → audio_codec asked ≡ (parts_of container).packing.audio_codec
    → ToOldFor container out r out' → r.number ≡ 0 → length container ≤ length back → FromOldFor (take r.size out') asked back r' back' → Gives container back r' back'

-- A film of the builder whose payloads are masked under a key, or under none, moved by `usm_from_old` with its codecs, is read back by `usm_extract` under that key: its name, the
-- codecs, both streams in the clear.
abbrev pub MovedIsRead : Type 0
MovedIsRead =
    (name video sound : List ℕ) (packing : Packing) (asked : CodecBytes) (out out' : List ℕ) (r : SizeReply) (reading : Reading) (fallback seen heard seen' heard' : List ℕ)
    (r' : FilmReply)
    → is_utf8 name ≡ true → (packing.audio ≡ false → sound ≡ []) → CodecFits packing.mpeg_codec → CodecFits packing.audio_codec
    → video_codec asked ≡ packing.mpeg_codec → audio_codec asked ≡ packing.audio_codec
    → FromOldFor (old_bytes name (stored_in packing Video video) (audios_of packing.audio (stored_in packing Audio sound))) asked out r out' → r.number ≡ 0
    → takes_channel reading.audio 0 ≡ true → length video ≤ length seen → length sound ≤ length heard
    → FilmReplied (take r.size out') reading packing.key fallback seen heard r' seen' heard'
    → RepliesBack name video sound packing (take r.size out') fallback seen heard r' seen' heard'

-- And `usm_profile` finds plain whatever `usm_from_old` moves.
abbrev pub MovedIsPlain : Type 0
MovedIsPlain =
    (film : List ℕ) (asked : CodecBytes) (out out' : List ℕ) (r : SizeReply) (r' : ProfileReply) → CodecFits (video_codec asked) → CodecFits (audio_codec asked)
    → FromOldFor film asked out r out' → r.number ≡ 0 → r' ≡ profile_reply (profile_of (take r.size out')) → (r'.number ≡ 0) × (r'.rule ≡ 0)

-- ---- two keys

-- Two calls of `usm_extract` on one film, under two keys and into the same outputs, leave the same two streams exactly when the keys agree in the bits that `usm_key_bits` replies.
abbrev pub SameStreamsExactlyWhenBitsAgree : Type 0
SameStreamsExactlyWhenBitsAgree =
    (container : List ℕ) (reading : Reading) (key key' : ℕ) (fallback video audio video_after audio_after video_after' audio_after' : List ℕ) (r r' : FilmReply) (shown : KeyBitsReply)
    → FilmReplied container reading (Some key) fallback video audio r video_after audio_after → FilmReplied container reading (Some key') fallback video audio r' video_after' audio_after'
    → r.number ≡ 0 → shown ≡ key_bits_reply (key_bits_in (film_of container reading))
    → AgreeIn shown.bits key key' ↔ ((video_after ≡ video_after') × (audio_after ≡ audio_after'))
