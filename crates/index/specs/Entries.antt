-- Request 8: "a chunk index beside the container: for each video payload its place in the stream and in the file". An empty payload has an entry too.
use Rattle.std.specs.Prelude.{ℕ, ◌+◌, List, [], ◌∷◌, ◌++◌}
use Rattle.chunk.specs.declared.Kind.{Kind}
use Rattle.chunk.specs.declared.Kind.TheVariants.{Video, Audio, Other, End}
use Rattle.chunk.specs.declared.Chunk.{Chunk}
use Rattle.walk.specs.Walks.{video_in}
use Rattle.seek.specs.Entries.{entry_of}

-- "for each video payload": what a chunk gives, whose payload begins at a place of the stream
abbrev pub of_kind : Kind → ℕ → ℕ → ℕ → List (List ℕ)
of_kind Video place start len = entry_of place start len ∷ []
of_kind Audio place start len = []
of_kind Other place start len = []
of_kind End place start len = []

abbrev pub entry_in : ℕ → Chunk → List (List ℕ)
entry_in place chunk = of_kind chunk.kind place chunk.start chunk.len

-- the entries of chunks whose first payload begins at a place of the stream
unfoldable pub entries_from : ℕ → List Chunk → List (List ℕ)
entries_from place [] = []
entries_from place (chunk ∷ chunks) = entry_in place chunk ++ entries_from (place + video_in chunk.kind chunk.len) chunks

-- the index of a film's chunks
abbrev pub entries_of : List Chunk → List (List ℕ)
entries_of = entries_from 0
