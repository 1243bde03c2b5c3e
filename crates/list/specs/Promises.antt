-- What a listing promises. Each is proved under the same name in proofs/Promises.antt.
use Rattle.std.specs.Prelude.{ℕ, ◌≡◌, List, length, drop}
use Rattle.reading.specs.declared.Reading.{Reading}
use Rattle.list.specs.declared.ChunkRecord.{ChunkRecord}
use Rattle.list.specs.declared.ListReply.{ListReply}
use Rattle.list.specs.Listing.{Listing}

-- "Every refusal leaves .. the list unchanged"
abbrev pub RefusalsLeaveTheList : Type 0
RefusalsLeaveTheList = (container : List ℕ) (reading : Reading) (list list' : List ChunkRecord) (r : ListReply) → Listing container reading list r list' → (r.number ≡ 0 → ⊥) → list' ≡ list

-- as many elements as before, and from a count on the same
abbrev pub SamePast : {A : Type 0} → ℕ → List A → List A → Type 0
SamePast count list list' = (length list' ≡ length list) × (drop count list' ≡ drop count list)

-- "records past a .. count stay unchanged": whatever is replied, the list is as long as before, and from the count on it is the same
abbrev pub RecordsPastTheCountStay : Type 0
RecordsPastTheCountStay = (container : List ℕ) (reading : Reading) (list list' : List ChunkRecord) (r : ListReply) → Listing container reading list r list' → SamePast r.count list list'
