-- What a filler of a lent list goes by, chunk by chunk. It serves the contract of the plan; the rules do not name it.
use Rattle.std.specs.Prelude.{ℕ, List, false, Option, Some, None, Result, Ok, Err}
use Rattle.film.specs.declared.Surveyed.{Surveyed}
use Rattle.chunk.specs.declared.Chunk.{Chunk}
use Rattle.refusal.specs.declared.Refusal.{Refusal}
use Rattle.reading.specs.declared.Reading.{Reading}
use Rattle.reading.specs.declared.Applied.{Applied}
use Rattle.reading.specs.Choices.{applied_to}
use Rattle.chunk.specs.Chunks.{chunk_at}
use Rattle.list.specs.declared.Plan.{Plan}
use Rattle.list.specs.declared.RecordStep.{RecordStep}
use Rattle.list.specs.Listing.{record_of, listed_in, list_reply}

-- how many records are made
abbrev pub records_in : Result ℕ Refusal → ℕ
records_in (Ok n) = n
records_in (Err refusal) = 0

abbrev pub start_in : Result Surveyed Refusal → ℕ
start_in (Ok survey) = survey.header.start
start_in (Err refusal) = 0

abbrev pub reading_in : Reading → Result Surveyed Refusal → Applied
reading_in asked (Ok survey) = survey.reading
reading_in asked (Err refusal) = applied_to false asked

abbrev pub plan_of : ℕ → Reading → Result Surveyed Refusal → Plan
plan_of room asked s = record { reply = list_reply (listed_in room s); records = records_in (listed_in room s); start = start_in s; reading = reading_in asked s }

-- a record and the next place; nothing of use where there is no chunk
abbrev pub no_record : RecordStep
no_record = record { made = record { start = 0; kind = 0; data_type = 0; channel = 0; offset = 0; len = 0 }; next = 0 }

abbrev pub step_of : Result (Option Chunk) Refusal → RecordStep
step_of (Ok None) = no_record
step_of (Ok (Some chunk)) = record { made = record_of chunk; next = chunk.next }
step_of (Err refusal) = no_record

unfoldable pub step_at : List ℕ → Applied → ℕ → RecordStep
step_at container reading place = step_of (chunk_at container reading place)
