-- What a jump promises of any list of entries. Each is proved under the same name in proofs/Promises.antt.
use Rattle.std.specs.Prelude.{ℕ, ◌-◌, ◌^◌, ◌≤◌, ◌<◌, ◌≡◌, List, length, Some}
use Rattle.seek.specs.Entries.{place_at, chunk_in, length_at}
use Rattle.seek.specs.Seeking.{halved, begun_by, sought_in}

-- the places never fall
abbrev pub Rising : List (List ℕ) → Type 0
Rising index = (i j : ℕ) → i ≤ j → j < length index → place_at index i ≤ place_at index j

-- Where the places never fall, the entries that are found by halving are those that begin at or before the byte: all of them, and no others.
abbrev pub BegunAreTheFirst : Type 0
BegunAreTheFirst =
    (index : List (List ℕ)) (n : ℕ) → Rising index
    → (begun_by index n ≤ length index) × ((i : ℕ) → i < begun_by index n → place_at index i ≤ n) × ((i : ℕ) → begun_by index n ≤ i → i < length index → n < place_at index i)

-- Fewer than 2 ^ k entries need no more than k halvings: some twenty for a million.
abbrev pub FewHalvingsSuffice : Type 0
FewHalvingsSuffice =
    (index : List (List ℕ)) (n k : ℕ) → length index < 2 ^ k → halved index n k (record { low = 0; count = length index }) ≡ begun_by index n

-- an entry answers for byte n: its chunk, and the byte's offset, which is less than its length
pub record Answers (index : List (List ℕ)) (n chunk offset i : ℕ) : Type 0 where
  pub begins : place_at index i ≤ n
  pub starts : chunk ≡ chunk_in index i
  pub counted : offset ≡ n - place_at index i
  pub within : offset < length_at index i

-- "Empty payloads never answer", in an index that nobody built too: what answers is the last entry that is found to begin at or before the byte, by its own chunk, and its payload is longer
-- than the offset.
abbrev pub EmptyPayloadsNeverAnswer : Type 0
EmptyPayloadsNeverAnswer =
    (index : List (List ℕ)) (n chunk offset : ℕ) → sought_in index n ≡ Some (record { chunk = chunk; offset = offset }) → (0 < begun_by index n) × Answers index n chunk offset (begun_by index n - 1)
