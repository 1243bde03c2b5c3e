-- What an index promises. Each is proved under the same name in proofs/Promises.antt. What a jump by it finds stands in `promises_seek`.
use Rattle.std.specs.Prelude.{ℕ, ◌≡◌, List, take}
use Rattle.list.specs.declared.ListReply.{ListReply}
use Rattle.list.specs.Promises.{SamePast}
use Rattle.index.specs.Indexing.{Indexing}

-- "index untouched"
abbrev pub RefusalsLeaveTheIndex : Type 0
RefusalsLeaveTheIndex = (container : List ℕ) (list list' : List (List ℕ)) (r : ListReply) → Indexing container list r list' → (r.number ≡ 0 → ⊥) → list' ≡ list

-- "records past a .. count stay unchanged": whatever is replied, the list is as long as before, and from the count on it is the same
abbrev pub EntriesPastTheCountStay : Type 0
EntriesPastTheCountStay = (container : List ℕ) (list list' : List (List ℕ)) (r : ListReply) → Indexing container list r list' → SamePast r.count list list'

-- "a rebuilt index is identical": its count and its entries, whatever the two lists held before and however long they are
abbrev pub RebuiltIsIdentical : Type 0
RebuiltIsIdentical =
    (container : List ℕ) (list list' again again' : List (List ℕ)) (r s : ListReply) → Indexing container list r list' → Indexing container again s again' → r.number ≡ 0 → s.number ≡ 0
    → (r ≡ s) × (take r.count list' ≡ take s.count again')
