-- The chunks of example F, measured by computation in both payload modes: 32 bytes of video, then the end chunk. Assumes nothing.
use Rattle.std.proofs.Common.{◌≡◌, ℕ, List, ◌∷◌, ◌++◌, refl, Ok}
use Rattle.laws.specs.Lists.{tab}
use Rattle.reading.specs.declared.AudioChoice.TheVariants.{Chosen}
use Rattle.reading.specs.declared.PayloadMode.{PayloadMode}
use Rattle.reading.specs.declared.PayloadMode.TheVariants.{Original, AfterHeader}
use Rattle.signature.specs.Signatures.{contents_end, same_bytes}
use Rattle.chunk.specs.Openings.{kind_at, opening_at}
use Rattle.chunk.specs.Chunks.{chunk_of, held_at, taken_at, opened_at, chunk_at}
use Rattle.walk.specs.Walks.{walk_for, walk_from, size_of, measure_of}

abbrev zeros : ℕ → List ℕ
zeros n = tab (λ _. 0) n

-- `@SFV`, block size 56, header size 24
abbrev front : List ℕ
front = 0x40 ∷ 0x53 ∷ 0x46 ∷ 0x56 ∷ 0 ∷ 0 ∷ 0 ∷ 56 ∷ 0 ∷ 24 ∷ zeros 22

abbrev both : List ℕ
both = front ++ (zeros 32 ++ (front ++ (contents_end ++ zeros 19)))

measured : (mode : PayloadMode) → measure_of (walk_from both (record { audio = Chosen; payloads = mode }) 0) ≡ Ok (record { count = 2; video = 32; audio = 0 })
unfolding tab same_bytes kind_at opening_at chunk_of held_at taken_at opened_at chunk_at walk_for walk_from size_of measure_of
measured Original = refl
measured AfterHeader = refl
