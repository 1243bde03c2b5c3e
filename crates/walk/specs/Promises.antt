-- What a walk promises beyond its definition. Each is proved under the same name in proofs/Promises.antt.
-- That a walk ends on every container is not among them: `measure` has an answer on every input, as every function here has.
use Rattle.std.specs.Prelude.{◌≡◌, ℕ, ◌+◌, ◌-◌, ◌≤◌, true, List, [], ◌∷◌, length, Err}
use Rattle.word.specs.Numbers.{be16}
use Rattle.refusal.specs.declared.Refusal.{Refusal}
use Rattle.reading.specs.declared.Applied.{Applied}
use Rattle.chunk.specs.declared.Chunk.{Chunk}
use Rattle.chunk.specs.Chunks.{is_taken, chunk_at}
use Rattle.walk.specs.Walks.{clean, stopped, go_on, walk_from, video_size, audio_size}

-- A walk is the chunk rule, step by step: the number of chunks that its definition allows cuts none short.
abbrev pub WalkGoesByChunks : Type 0
WalkGoesByChunks =
    (container : List ℕ) (reading : Applied) (c : ℕ) → walk_from container reading c ≡ go_on (chunk_at container reading c) (walk_from container reading)

-- A walk that is refused is refused by the chunk at the refusal's place: by 1, by 9, or in the second payload mode by 17 (`RefusedByThree` of `chunk`).
abbrev pub RefusedByAChunk : Type 0
RefusedByAChunk =
    (container : List ℕ) (reading : Applied) (c : ℕ) (refusal : Refusal) → (walk_from container reading c).ending ≡ stopped refusal
    → chunk_at container reading refusal.place ≡ Err refusal

-- Both stream sizes together never exceed the bytes that are left where the walk starts, in both payload modes and for every audio choice.
abbrev pub SizesFitWhatIsLeft : Type 0
SizesFitWhatIsLeft =
    (container : List ℕ) (reading : Applied) (c : ℕ)
    → video_size (walk_from container reading c).chunks + audio_size (walk_from container reading c).chunks ≤ length container - c

-- every payload that is taken stands behind a header of 0x18
abbrev pub Plain : List ℕ → Applied → List Chunk → Type 0
Plain container reading [] = Unit
Plain container reading (chunk ∷ chunks) =
    (is_taken reading chunk.kind chunk.channel ≡ true → be16 container (chunk.start + 8) ≡ 0x18) × Plain container reading chunks

-- Request 4: at header size 0x18 both payload modes agree. Such a walk that ends clean is the same in both
abbrev pub ModesAgreeOnAWalk : Type 0
ModesAgreeOnAWalk =
    (container : List ℕ) (reading other : Applied) (c : ℕ) → reading.audio ≡ other.audio → (walk_from container reading c).ending ≡ clean
    → Plain container reading (walk_from container reading c).chunks → walk_from container other c ≡ walk_from container reading c
