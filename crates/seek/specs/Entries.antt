-- Request 8: what an entry of an index holds: "for each video payload its place in the stream and in the file", and its length.
use Rattle.std.specs.Prelude.{ℕ, List, [], ◌∷◌, get_or}

-- an entry: the payload's place in the stream, its chunk's start in the file, its length
abbrev pub entry_of : ℕ → ℕ → ℕ → List ℕ
entry_of place chunk length = place ∷ chunk ∷ length ∷ []

-- what the entry at a position says
abbrev pub place_at : List (List ℕ) → ℕ → ℕ
place_at index i = get_or (get_or index i []) 0 0

abbrev pub chunk_in : List (List ℕ) → ℕ → ℕ
chunk_in index i = get_or (get_or index i []) 1 0

abbrev pub length_at : List (List ℕ) → ℕ → ℕ
length_at index i = get_or (get_or index i []) 2 0
