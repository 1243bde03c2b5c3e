-- What is promised of the beginnings of a container. Each is proved under the same name in proofs/Promises.antt.
use Rattle.std.specs.Prelude.{ℕ, ◌+◌, ◌≤◌, ◌<◌, ◌≡◌, List, length, take, Some, Ok, Err}
use Rattle.refusal.specs.declared.Cause.TheVariants.{RanOut}
use Rattle.refusal.specs.declared.Refusal.{Refusal}
use Rattle.reading.specs.declared.Reading.{Reading}
use Rattle.reading.specs.declared.Applied.{Applied}
use Rattle.header.specs.declared.Header.{Header}
use Rattle.header.specs.Headers.{header_of}
use Rattle.chunk.specs.declared.Chunk.{Chunk}
use Rattle.chunk.specs.Chunks.{refused_at, chunk_at}
use Rattle.laws_prefix.specs.Needs.{need_of, Open}

-- A header that is read in a beginning of a container is read in the container too, and says the same, unless that is too long.
abbrev pub HeaderOfABeginning : Type 0
HeaderOfABeginning =
    (container : List ℕ) (n : ℕ) (how : Reading) (header : Header) → length container ≤ 0x40000000 → header_of (take n container) how ≡ Ok header → header_of container how ≡ Ok header

-- So is a refusal, with its place, unless it is 1 and not inside a table that is there: only where the beginning's own bytes run out can more of them help.
abbrev pub RefusalOfABeginning : Type 0
RefusalOfABeginning =
    (container : List ℕ) (n : ℕ) (how : Reading) (refusal : Refusal) → length container ≤ 0x40000000 → (Open (take n container) how.tables refusal → ⊥)
    → header_of (take n container) how ≡ Err refusal → header_of container how ≡ Err refusal

-- A chunk of a container is the same in each beginning that holds what it needs.
abbrev pub ChunkOfABeginning : Type 0
ChunkOfABeginning =
    (container : List ℕ) (n : ℕ) (reading : Applied) (c : ℕ) (chunk : Chunk) → n ≤ length container → chunk_at container reading c ≡ Ok (Some chunk)
    → need_of chunk ≤ n → chunk_at (take n container) reading c ≡ Ok (Some chunk)

-- In each other one that holds its letters it is refused: its bytes run out.
abbrev pub ChunkCutOff : Type 0
ChunkCutOff =
    (container : List ℕ) (n : ℕ) (reading : Applied) (c : ℕ) (chunk : Chunk) → n ≤ length container → chunk_at container reading c ≡ Ok (Some chunk)
    → c + 4 ≤ n → n < need_of chunk → chunk_at (take n container) reading c ≡ refused_at c RanOut
