-- The promises of specs/Promises.antt, each under its name: a container is its beginning with the rest behind it. Assumes nothing.
use Rattle.std.specs.Prelude.{Some, Ok}
use Prim.Native.Nat.{ℕ, ◌≤◌}
use mathlib.Core.Path.{◌≡◌, sym, ap, ◌∙◌}
use mathlib.Core.List.{List, ◌++◌}
use native.Mathlib.Omega.{arith}
use lib.ListN.{length, take, drop, take-append-drop}
use lib.Seq.{length-take-le}
use Rattle.reading.specs.declared.Applied.{Applied}
use Rattle.reading.specs.declared.Reading.{Reading}
use Rattle.header.specs.Headers.{header_of}
use Rattle.chunk.specs.declared.Chunk.{Chunk}
use Rattle.chunk.specs.Chunks.{chunk_at}
use Rattle.laws_prefix.specs.Promises as promised
use Rattle.laws_prefix.proofs.Settled.{Settled, header_open, none}
use Rattle.laws_prefix.proofs.HeaderLaws.{header_settled}
use Rattle.laws_prefix.proofs.ChunkLaws.{chunk_kept, chunk_cut}

-- the same answer, unless the beginning's bytes run out
same_answer : (container : List ℕ) (n : ℕ) (how : Reading) → length container ≤ 0x40000000 → Settled (header_open (take n container) how.tables) (header_of (take n container) how) (header_of container how)
same_answer container n how few unless =
    let one = take-append-drop n container in
    let long : length (take n container ++ drop n container) ≤ 0x40000000 = omega (arith, ap length one) in
    ap (λ (bytes : List ℕ). header_of bytes how) (sym one) ∙ header_settled (take n container) (drop n container) how long unless

pub HeaderOfABeginning : promised.HeaderOfABeginning
HeaderOfABeginning container n how header few e = same_answer container n how few (rw e none) ∙ e

pub RefusalOfABeginning : promised.RefusalOfABeginning
RefusalOfABeginning container n how refusal few other e = same_answer container n how few (rw e other) ∙ e

module _ (container : List ℕ) (n : ℕ) (reading : Applied) (c : ℕ) (chunk : Chunk) (within : n ≤ length container) (e : chunk_at container reading c ≡ Ok (Some chunk)) where
  cut_there : length (take n container) ≡ n
  cut_there = length-take-le n container within

  -- the chunk in the beginning with the rest behind it
  there : chunk_at (take n container ++ drop n container) reading c ≡ Ok (Some chunk)
  there = ap (λ (bytes : List ℕ). chunk_at bytes reading c) (take-append-drop n container) ∙ e

pub ChunkOfABeginning : promised.ChunkOfABeginning
ChunkOfABeginning container n reading c chunk within e h =
    chunk_kept (take n container) (drop n container) c chunk reading (there container n reading c chunk within e) (omega (arith, cut_there container n reading c chunk within e))

pub ChunkCutOff : promised.ChunkCutOff
ChunkCutOff container n reading c chunk within e four h =
    let l = cut_there container n reading c chunk within e in
    chunk_cut (take n container) (drop n container) c chunk reading (there container n reading c chunk within e) (omega arith) (omega arith)
