-- The promises of specs/Promises.antt, each under its name: an index is a function of the film alone. Assumes nothing.
use Rattle.std.specs.Prelude.{Result, Ok, Err}
use Rattle.refusal.specs.declared.Refusal.{Refusal}
use Prim.Native.Nat.{ℕ, ◌≤◌}
use mathlib.Core.Path.{◌≡◌, refl, sym, ◌∙◌}
use mathlib.Core.List.{List}
use native.Mathlib.Omega.{arith}
use lib.ListN.{length}
use Rattle.film.specs.Films.{Film, film, refused, film_of}
use Rattle.list.specs.Listing.{list_reply}
use Rattle.list.specs.Promises.{SamePast}
use Rattle.list.proofs.PastLaws.{past_records, had_room}
use Rattle.index.specs.Entries.{entries_of}
use Rattle.index.specs.Indexing.{silent, indexed_in, entered_by, index_of}
use Rattle.index.specs.Promises as promised
use Rattle.index.proofs.IndexLaws.{replied}

left : (list entries : List (List ℕ)) (answer : Result ℕ Refusal) → ((list_reply answer).number ≡ 0 → ⊥) → entered_by list entries answer ≡ list
left list entries (Ok n) h = absurd (h refl)
left list entries (Err refusal) h = refl

pub RefusalsLeaveTheIndex : promised.RefusalsLeaveTheIndex
RefusalsLeaveTheIndex container list list' r i h =
    i.1 ∙ left list (index_of (film_of container silent)) (indexed_in (length list) (film_of container silent)) (rw i.0 at h)

-- a count is that of the entries, and has room
all_entries : (room : ℕ) (f : Film) (n : ℕ) → indexed_in room f ≡ Ok n → (length (index_of f) ≡ n) × (n ≤ room)
all_entries room (film header applied chunks) n e = had_room room (length (entries_of chunks)) n e
all_entries room (refused refusal) n e = let z : ◌≡◌ {A = ℕ} 0 1 = cc in absurd (omega arith)

past : (list entries : List (List ℕ)) (answer : Result ℕ Refusal) → ((n : ℕ) → answer ≡ Ok n → (length entries ≡ n) × (n ≤ length list))
    → SamePast (list_reply answer).count list (entered_by list entries answer)
past list entries (Ok n) fits = let f = fits n refl in past_records list entries n f.0 f.1
past list entries (Err refusal) fits = (refl, refl)

pub EntriesPastTheCountStay : promised.EntriesPastTheCountStay
EntriesPastTheCountStay container list list' r i =
    rw (i.0, i.1) (past list (index_of (film_of container silent)) (indexed_in (length list) (film_of container silent)) (all_entries (length list) (film_of container silent)))

pub RebuiltIsIdentical : promised.RebuiltIsIdentical
RebuiltIsIdentical container list list' again again' r s i j z w =
    let first = replied container list list' r i z in
    let second = replied container again again' s j w in
    (first.0 ∙ sym second.0, first.1 ∙ sym second.1)
