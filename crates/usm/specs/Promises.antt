-- What is promised of a film through C. Each is proved under the same name in proofs/Promises.antt.
use Rattle.std.specs.Prelude.{ℕ, ◌≡◌, List, ◌++◌, ◌⊎◌, length, take, Option}
use Rattle.reading.specs.declared.Reading.{Reading}
use Rattle.replies.specs.declared.FilmReply.{FilmReply}
use Rattle.lent.specs.declared.SizeReply.{SizeReply}
use Rattle.write_pieces.specs.Writers.{bytes_by}
use Rattle.usm.specs.declared.writing.PackingBytes.{PackingBytes}
use Rattle.usm.specs.Exports.{FilmReplied}
use Rattle.usm.specs.Writes.{packing_by, WrittenFor}
use Rattle.usm.specs.Pieces.{HeaderFor, EndsFor, Calls, WentOnFor, put_for}

-- "Over a container, no key and no lack of one changes a refusal, name, codec, size": two calls that differ in the key have one reply
abbrev pub NoKeyChangesTheReply : Type 0
NoKeyChangesTheReply =
    (container : List ℕ) (reading : Reading) (key key' : Option ℕ) (fallback video audio : List ℕ) (r r' : FilmReply) (video_after audio_after video_after' audio_after' : List ℕ)
    → FilmReplied container reading key fallback video audio r video_after audio_after → FilmReplied container reading key' fallback video audio r' video_after' audio_after' → r ≡ r'

-- "Every refusal leaves both outputs .. unchanged": every number but 0
abbrev pub RefusalsLeaveBothOutputs : Type 0
RefusalsLeaveBothOutputs =
    (container : List ℕ) (reading : Reading) (key : Option ℕ) (fallback video audio : List ℕ) (r : FilmReply) (video_after audio_after : List ℕ)
    → FilmReplied container reading key fallback video audio r video_after audio_after → (r.number ≡ 0 → ⊥) → (video_after ≡ video) × (audio_after ≡ audio)

-- A film that is written piece by piece, where no call is refused: what each output holds afterwards, put one after the other, is what `usm_write` writes for the same
-- name, streams and packing, into every output that is long enough; it refuses such a film for nothing else.
abbrev pub PiecesAreWhatIsWritten : Type 0
PiecesAreWhatIsWritten =
    (name video audio : List ℕ) (asked : PackingBytes) (out out' : List ℕ) (r : SizeReply) (turns : List Calls) (last : Calls) (end end' : List ℕ) (e : SizeReply)
    (film film' : List ℕ) (w : SizeReply)
    → HeaderFor name (length video) (length audio) (packing_by asked) out r out' → r.number ≡ 0
    → WentOnFor asked video audio last 0 turns
    → EndsFor (packing_by asked).audio end e end' → e.number ≡ 0
    → WrittenFor name video audio (packing_by asked) film w film'
    → (w.number ≡ 16) ⊎ (take w.size film' ≡ take r.size out' ++ (bytes_by put_for turns ++ take e.size end'))
