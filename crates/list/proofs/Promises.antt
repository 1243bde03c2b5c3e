-- The promises of specs/Promises.antt, each under its name: a number other than 0 is a refusal's, and a count is that of the records. Assumes nothing.
use Rattle.std.specs.Prelude.{Result, Ok, Err}
use Rattle.refusal.specs.declared.Refusal.{Refusal}
use Prim.Native.Nat.{ℕ, ◌≤◌}
use mathlib.Core.Path.{◌≡◌, refl, ◌∙◌}
use mathlib.Core.List.{List}
use native.Mathlib.Omega.{arith}
use lib.ListN.{length}
use Rattle.film.specs.Films.{Film, film, refused, film_of, survey_of}
use Rattle.list.specs.declared.ChunkRecord.{ChunkRecord}
use Rattle.list.specs.Listing.{record_of, listed_in, listed_of, list_reply, records_of, filled_by}
use Rattle.list.specs.Promises as promised
use Rattle.list.proofs.PastLaws.{past_count, had_room, mapped_length}

left : (answer : Result ℕ Refusal) (list records : List ChunkRecord) → ((list_reply answer).number ≡ 0 → ⊥) → filled_by answer list records ≡ list
left (Ok n) list records h = absurd (h refl)
left (Err refusal) list records h = refl

pub RefusalsLeaveTheList : promised.RefusalsLeaveTheList
RefusalsLeaveTheList container reading list list' r listing h =
    rw listing.1 (left (listed_of container reading _) list (records_of (film_of container reading)) (rw listing.0 at h))

-- a count is that of the records, and has room
all_records : (room : ℕ) (f : Film) (n : ℕ) → listed_in room (survey_of f) ≡ Ok n → (length (records_of f) ≡ n) × (n ≤ room)
all_records room (film header applied chunks) n e = let h = had_room room (length chunks) n e in (mapped_length record_of chunks ∙ h.0, h.1)
all_records room (refused refusal) n e = let z : ◌≡◌ {A = ℕ} 0 1 = cc in absurd (omega arith)

pub RecordsPastTheCountStay : promised.RecordsPastTheCountStay
RecordsPastTheCountStay container reading list list' r listing =
    rw (listing.0, listing.1)
    (past_count list (records_of (film_of container reading)) (listed_of container reading (length list)) (all_records (length list) (film_of container reading)))
