-- A block for each stream that there is: the first has room, with audio the second has too, and together they are what is put. Assumes nothing.
use Prim.Native.Nat.{ℕ, ◌+◌, ◌≤◌}
use mathlib.Core.Path.{◌≡◌, sym}
use mathlib.Core.List.{List, ◌++◌, append-nil}
use mathlib.Core.Bool.{Bool, true, false}
use native.Mathlib.Omega.{arith}
use lib.ListN.{length, length-append}
use Rattle.laws.specs.Outputs.{Put}
use Rattle.laws.proofs.PutLaws.{all_left, less_left, left_fits, put_then, put_as}
use Rattle.signature.specs.Signatures.{SFV, SFA}
use Rattle.write_blocks.specs.Blocks.{block_of}
use Rattle.write_plan.specs.declared.Stream.{Stream}
use Rattle.write_plan.specs.declared.Stream.TheVariants.{Video, Audio}
use Rattle.write_plan.specs.Films.{bytes_of, in_each}

module _ (inside : Stream → List ℕ) where
  abbrev first : List ℕ
  first = block_of SFV (inside Video)

  abbrev second : List ℕ
  second = block_of SFA (inside Audio)

  with_audio_lem : bytes_of (in_each true inside) ≡ first ++ second
  unfolding bytes_of
  with_audio_lem = rw (append-nil second)

  without_audio_lem : bytes_of (in_each false inside) ≡ first
  unfolding bytes_of
  without_audio_lem = append-nil first

  module _ (out : List ℕ) (at : ℕ) where
    pub first_fits : (audio : Bool) → at + length (bytes_of (in_each audio inside)) ≤ length out → at + length first ≤ length out
    first_fits true room = omega (arith, rw with_audio_lem at room, length-append first second)
    first_fits false room = rw without_audio_lem at room

    module _ {after : List ℕ} {end : ℕ} (put : Put first out at after end) where
      pub second_fits : (audio : Bool) → audio ≡ true → at + length (bytes_of (in_each audio inside)) ≤ length out → end + length second ≤ length after
      second_fits true e room = left_fits (less_left (all_left (first ++ second) out at) put) (rw with_audio_lem at room)
      second_fits false e room = let z : ◌≡◌ {A = ℕ} 0 1 = cc in absurd (omega arith)

      pub both_put : (audio : Bool) → audio ≡ true → {last : List ℕ} {ends : ℕ} → Put second after end last ends → Put (bytes_of (in_each audio inside)) out at last ends
      both_put true e next = put_as (put_then put next) (sym with_audio_lem)
      both_put false e next = let z : ◌≡◌ {A = ℕ} 0 1 = cc in absurd (omega arith)

      pub one_put : (audio : Bool) → audio ≡ false → Put (bytes_of (in_each audio inside)) out at after end
      one_put true e = let z : ◌≡◌ {A = ℕ} 0 1 = cc in absurd (omega arith)
      one_put false e = put_as put (sym without_audio_lem)
