-- Rules C: listing. It "fills a lent list of chunk records: start, kind, data type, payload length (0 if skipped)."
use Rattle.std.specs.Prelude.{ℕ, ◌-◌, ◌≡◌, List, [], map, cond, length, ltb, Result, Ok, Err}
use Rattle.film.specs.declared.Surveyed.{Surveyed}
use Rattle.refusal.specs.declared.Refusal.{Refusal}
use Rattle.std.proofs.lemmas.List.Edits.{sets}
use Rattle.refusal.specs.declared.Cause.TheVariants.{ShortList}
use Rattle.refusal.specs.Numbers.{number_of, beside_of}
use Rattle.chunk.specs.declared.Chunk.{Chunk}
use Rattle.chunk.specs.Chunks.{kind_number}
use Rattle.reading.specs.declared.Reading.{Reading}
use Rattle.film.specs.Films.{Film, film, refused, film_of, survey_of}
use Rattle.list.specs.declared.ChunkRecord.{ChunkRecord}
use Rattle.list.specs.declared.ListReply.{ListReply}

-- "start, kind, data type, payload length (0 if skipped)"; byte 12, the channel: "Add it to the chunk record"; where
-- the payload starts: it depends on the mode
abbrev pub record_of : Chunk → ChunkRecord
record_of chunk = record { start = chunk.start; kind = kind_number chunk.kind; data_type = chunk.data_type; channel = chunk.channel; offset = chunk.payload - chunk.start; len = chunk.len }

-- 13, "chunk list too short", with the count, at 0; or the count
abbrev pub counted_in : ℕ → ℕ → Result ℕ Refusal
counted_in room count = cond (ltb room count) (Err (record { cause = ShortList count; place = 0 })) (Ok count)

-- "Listing returns the chunk count"
abbrev pub listed_in : ℕ → Result Surveyed Refusal → Result ℕ Refusal
listed_in room (Ok survey) = counted_in room survey.count
listed_in room (Err refusal) = Err refusal

-- what a listing of a container into so many records answers
abbrev pub listed_of : List ℕ → Reading → ℕ → Result ℕ Refusal
listed_of container reading room = listed_in room (survey_of (film_of container reading))

-- the answer as C reads it: the paper's number, 0 where nothing is refused; the place; the type beside 8; the chunk count, also beside 13
abbrev pub list_reply : Result ℕ Refusal → ListReply
list_reply (Ok n) = record { refused_at = 0; count = n; number = 0; unknown_type = 0 }
list_reply (Err refusal) = record { refused_at = refusal.place; count = (beside_of refusal.cause).count; number = number_of refusal.cause; unknown_type = (beside_of refusal.cause).unknown_type }

-- the records of a film's chunks
abbrev pub records_of : Film → List ChunkRecord
records_of (film header applied chunks) = map record_of chunks
records_of (refused refusal) = []

-- "Every refusal leaves .. the list unchanged"; "records past a .. count stay unchanged"
abbrev pub filled_by : {A : Type 0} → Result ℕ Refusal → List A → List A → List A
filled_by (Ok n) list records = sets list 0 records
filled_by (Err refusal) list records = list

-- what a listing replies, and the list after it
abbrev pub Listing : List ℕ → Reading → List ChunkRecord → ListReply → List ChunkRecord → Type 0
Listing container reading list r list' =
    (r ≡ list_reply (listed_of container reading (length list)))
    × (list' ≡ filled_by (listed_of container reading (length list)) list (records_of (film_of container reading)))
