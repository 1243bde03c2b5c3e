-- What a chunk that is found promises. Each is proved under the same name in proofs/Promises.antt.
use Rattle.std.specs.Prelude.{ℕ, ◌+◌, ◌≤◌, ◌≡◌, List, true, false, ◌⊎◌, length, take, drop, Some, None, Ok, Err}
use Rattle.std.specs.Borrow.{Bor}
use Rattle.part.specs.Parts.{IsPart}
use Rattle.refusal.specs.declared.Refusal.{Refusal}
use Rattle.refusal.specs.declared.Cause.TheVariants.{RanOut, TooSmall, ShortHeader}
use Rattle.reading.specs.declared.PayloadMode.TheVariants.{AfterHeader}
use Rattle.reading.specs.declared.Applied.{Applied}
use Rattle.chunk.specs.declared.Chunk.{Chunk}
use Rattle.chunk.specs.Openings.{opening_at}
use Rattle.chunk.specs.Chunks.{is_taken, offset_of, chunk_at, payload_of, PayloadAt}
use Rattle.chunk.specs.Windows.{step_in}

-- Its payload lies within the container, all of it.
abbrev pub PayloadsLieWithin : Type 0
PayloadsLieWithin =
    (container : List ℕ) (reading : Applied) (c : ℕ) (chunk : Chunk) → chunk_at container reading c ≡ Ok (Some chunk)
    → (chunk.payload + chunk.len ≤ length container) × (length (payload_of container chunk) ≡ chunk.len)

-- Request 4, "The payload reader must now promise its start as well as its length": a payload that is taken starts at c + 0x20, or in the second mode at c + 8 + header size; with
-- the header size and the footer size its length is the block size. One that is skipped has no bytes
abbrev pub PayloadsStandWhere : Type 0
PayloadsStandWhere =
    (container : List ℕ) (reading : Applied) (c : ℕ) (chunk : Chunk) → chunk_at container reading c ≡ Ok (Some chunk)
    → (is_taken reading (opening_at container c).kind (opening_at container c).channel ≡ true
    → (chunk.payload ≡ c + offset_of reading.payloads (opening_at container c))
    × (chunk.len + ((opening_at container c).header + (opening_at container c).footer) ≡ (opening_at container c).block))
    × (is_taken reading (opening_at container c).kind (opening_at container c).channel ≡ false → chunk.len ≡ 0)

-- and what is read is that part: it lies in the container's memory, so many bytes behind its start, and has the payload's bytes
abbrev pub ReadFromThere : Type 0
ReadFromThere =
    (container r : Bor (List ℕ)) (reading : Applied) (c : ℕ) (chunk : Chunk) → PayloadAt container reading c r → chunk_at container.now reading c ≡ Ok (Some chunk)
    → is_taken reading (opening_at container.now c).kind (opening_at container.now c).channel ≡ true
    → IsPart container (c + offset_of reading.payloads (opening_at container.now c)) (payload_of container.now chunk) r

-- a chunk but for where its payload starts
abbrev pub starting_at : ℕ → Chunk → Chunk
starting_at place chunk =
    record { start = chunk.start; kind = chunk.kind; channel = chunk.channel; data_type = chunk.data_type; next = chunk.next; payload = place; len = chunk.len }

-- "same length": a chunk that is found in both payload modes is the same in both, but for where its payload starts
abbrev pub ModesDifferInTheStart : Type 0
ModesDifferInTheStart =
    (container : List ℕ) (reading other : Applied) (c : ℕ) (chunk chunk' : Chunk) → reading.audio ≡ other.audio
    → chunk_at container reading c ≡ Ok (Some chunk) → chunk_at container other c ≡ Ok (Some chunk') → chunk' ≡ starting_at chunk'.payload chunk

-- A chunk is refused at its start, by 1, by 9, or in the second payload mode by 17.
abbrev pub RefusedByThree : Type 0
RefusedByThree =
    (container : List ℕ) (reading : Applied) (c : ℕ) (refusal : Refusal) → chunk_at container reading c ≡ Err refusal
    → (refusal.place ≡ c) × ((refusal.cause ≡ RanOut) ⊎ ((refusal.cause ≡ TooSmall) ⊎ ((refusal.cause ≡ ShortHeader) × (reading.payloads ≡ AfterHeader))))

-- It starts at the place that was asked, and the next one at least 8 bytes further on: so every walk ends.
abbrev pub NextLiesAfter : Type 0
NextLiesAfter =
    (container : List ℕ) (reading : Applied) (c : ℕ) (chunk : Chunk) → chunk_at container reading c ≡ Ok (Some chunk) → (chunk.start ≡ c) × (c + 8 ≤ chunk.next)

-- Request 4: at header size 0x18 both payload modes agree. What stands at a place is the same in both, or refused alike, if the payload there is not taken or
-- the header size is 0x18
abbrev pub ModesAgree : Type 0
ModesAgree =
    (container : List ℕ) (reading other : Applied) (c : ℕ) → reading.audio ≡ other.audio
    → (is_taken reading (opening_at container c).kind (opening_at container c).channel ≡ true → (opening_at container c).header ≡ 0x18)
    → chunk_at container reading c ≡ chunk_at container other c

-- A container read piece by piece has the same steps: a window of 45 bytes or more, of those that stand at a place, gives the step of the container there.
abbrev pub WindowsGiveTheStep : Type 0
WindowsGiveTheStep =
    (container : List ℕ) (reading : Applied) (c k : ℕ) → 45 ≤ k → step_in (take k (drop c container)) (length container) reading c ≡ Some (chunk_at container reading c)

-- A shorter one asks for more, or gives the step of the container too: never another.
abbrev pub WindowsNeverMislead : Type 0
WindowsNeverMislead =
    (container : List ℕ) (reading : Applied) (c k : ℕ)
    → (step_in (take k (drop c container)) (length container) reading c ≡ None) ⊎ (step_in (take k (drop c container)) (length container) reading c ≡ Some (chunk_at container reading c))
