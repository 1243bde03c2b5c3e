-- Request 8: "Refusals: the walk's own with audio not chosen, then 13 when the lent index is too short, index untouched."
use Rattle.std.specs.Prelude.{ℕ, ◌≡◌, List, [], length, Result, Ok, Err}
use Rattle.refusal.specs.declared.Refusal.{Refusal}
use Rattle.std.proofs.lemmas.List.Edits.{sets}
use Rattle.reading.specs.declared.Reading.{Reading}
use Rattle.reading.specs.declared.AudioChoice.TheVariants.{NotChosen}
use Rattle.reading.specs.Choices.{as_original}
use Rattle.film.specs.Films.{Film, film, refused, film_of}
use Rattle.list.specs.declared.ListReply.{ListReply}
use Rattle.list.specs.Listing.{counted_in, list_reply}
use Rattle.index.specs.Entries.{entries_of}

-- "with audio not chosen"
abbrev pub silent : Reading
silent = as_original NotChosen

-- what is answered on a film: how many entries there are, or "13 when the lent index is too short"
abbrev pub indexed_in : ℕ → Film → Result ℕ Refusal
indexed_in room (film header applied chunks) = counted_in room (length (entries_of chunks))
indexed_in room (refused refusal) = Err refusal

-- "index untouched"; entries past the count stay
abbrev pub entered_by : List (List ℕ) → List (List ℕ) → Result ℕ Refusal → List (List ℕ)
entered_by list entries (Ok n) = sets list 0 entries
entered_by list entries (Err refusal) = list

-- the index of a film: none where it is refused
abbrev pub index_of : Film → List (List ℕ)
index_of (film header applied chunks) = entries_of chunks
index_of (refused refusal) = []

-- what building an index of a container replies, and the lent list after it
abbrev pub Indexing : List ℕ → List (List ℕ) → ListReply → List (List ℕ) → Type 0
Indexing container list r list' =
    (r ≡ list_reply (indexed_in (length list) (film_of container silent)))
    × (list' ≡ entered_by list (index_of (film_of container silent)) (indexed_in (length list) (film_of container silent)))
