-- Request 8: "Asking for stream byte n gives its chunk's start and offset in the payload, or "past the end"". Any list of entries has an answer.
use Rattle.std.specs.Prelude.{ℕ, zero, suc, ◌+◌, ◌-◌, ◌/◌, List, cond, length, eqb, ltb, leb, Option, Some, None}
use Rattle.seek.specs.declared.Span.{Span}
use Rattle.seek.specs.declared.Sought.{Sought}
use Rattle.seek.specs.declared.SeekReply.{SeekReply}
use Rattle.seek.specs.Entries.{place_at, chunk_in, length_at}

-- the half of a span in which the first entry lies that begins after byte n: past the middle entry where that begins at or before n, else before it
unfoldable pub half_of : List (List ℕ) → ℕ → Span → Span
half_of index n span =
    cond (leb (place_at index (span.low + span.count / 2)) n)
    (record { low = span.low + span.count / 2 + 1; count = span.count - span.count / 2 - 1 })
    (record { low = span.low; count = span.count / 2 })

-- where a span begins after so many halvings, or once it is empty
unfoldable pub halved : List (List ℕ) → ℕ → ℕ → Span → ℕ
halved index n zero span = span.low
halved index n (suc steps) span = cond (eqb span.count 0) span.low (halved index n steps (half_of index n span))

-- how many entries begin at or before byte n, by halving. `BegunAreTheFirst` of Promises.antt says that they are the first ones, wherever the places rise, and `FewHalvingsSuffice` how
-- few halvings there are
unfoldable pub begun_by : List (List ℕ) → ℕ → ℕ
begun_by index n = halved index n (length index) (record { low = 0; count = length index })

-- byte n in the payload of the entry at a position: an entry answers for the bytes of its payload and for no others
abbrev pub in_entry : List (List ℕ) → ℕ → ℕ → Option Sought
in_entry index n i = cond (ltb (n - place_at index i) (length_at index i)) (Some (record { chunk = chunk_in index i; offset = n - place_at index i })) None

-- the last entry that begins at or before byte n answers
unfoldable pub sought_in : List (List ℕ) → ℕ → Option Sought
sought_in index n = cond (eqb (begun_by index n) 0) None (in_entry index n (begun_by index n - 1))

-- the answer as C reads it
abbrev pub seek_reply : Option Sought → SeekReply
seek_reply (Some place) = record { chunk = place.chunk; offset = place.offset; found = 1 }
seek_reply None = record { chunk = 0; offset = 0; found = 0 }
