-- What recognising a film promises. It is proved under the same name in proofs/Promises.antt.
use Rattle.std.specs.Prelude.{ℕ, ◌≡◌, List, [], true, false, length, None, Ok}
use Rattle.utf8.specs.Utf8.{is_utf8}
use Rattle.write_plan.specs.declared.Packing.{Packing}
use Rattle.write_plan.specs.Films.{bytes_of, header_blocks, film_bytes}
use Rattle.write_plan.specs.Planning.{planned_of}
use Rattle.promises_write.specs.Promises.{CodecFits}
use Rattle.moved_film.specs.Finding.{Parts, parts_of, is_new}

-- a film's parts are those that it was written from; its chunks start behind its header
abbrev pub WrittenFrom : List ℕ → List ℕ → List ℕ → Packing → Parts → Type 0
WrittenFrom name video audio packing parts =
    (parts.name ≡ name) × (parts.packing ≡ packing) × (parts.start ≡ length (bytes_of (header_blocks name packing))) × (parts.read.video ≡ video)
    × (parts.read.audio ≡ audio)

-- every film that request 1 writes without a key for a name in UTF-8 is taken for one that the move writes, and the parts that are read in it are those that it was
-- written from
abbrev pub FoundAgain : Type 0
FoundAgain =
    (name video audio : List ℕ) (packing : Packing) (size : ℕ) → is_utf8 name ≡ true → packing.key ≡ None → CodecFits packing.mpeg_codec
    → CodecFits packing.audio_codec → (packing.audio ≡ false → audio ≡ []) → planned_of name video audio packing ≡ Ok size
    → (is_new (film_bytes name video audio packing) ≡ true) × WrittenFrom name video audio packing (parts_of (film_bytes name video audio packing))
