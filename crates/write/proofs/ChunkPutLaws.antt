-- The next chunk of a stream, from a byte on: there is none past the stream's end, and else it has the payload that begins there. Assumes nothing.
use Prim.Native.Nat.{ℕ, ◌+◌, ◌≤◌, ◌<◌, ◌^◌}
use mathlib.Core.Path.{◌≡◌, sym, ap, ◌∙◌}
use mathlib.Core.List.{List, []}
use native.Mathlib.Omega.{arith}
use lib.ListN.{length, take, drop, length-take, length-drop, drop_of_length-le}
use Rattle.unmasking.specs.declared.Unmasking.{Unmasking}
use Rattle.write_blocks.specs.Blocks.{block_of}
use Rattle.write_plan.specs.declared.Stream.{Stream}
use Rattle.write_plan.specs.Payloads.{stored_as}
use Rattle.write_plan.specs.Films.{letters_of, bytes_of, next_chunk}
use Rattle.write_plan.proofs.TurnLaws.{next_bytes, next_none}

module _ (by : Unmasking) (stream : Stream) (bytes : List ℕ) (from : ℕ) where
  pub no_next : length bytes ≤ from → [] ≡ bytes_of (next_chunk by stream (drop from bytes))
  no_next h = sym (ap (λ (l : List ℕ). bytes_of (next_chunk by stream l)) (drop_of_length-le bytes h) ∙ next_none by stream)

  module _ (h : from < length bytes) (payload : List ℕ) (e : payload ≡ take 0x10000 (drop from bytes)) where
    pub next_is : block_of (letters_of stream) (stored_as by stream payload) ≡ bytes_of (next_chunk by stream (drop from bytes))
    next_is = rw e (sym (next_bytes by stream (drop from bytes) (rw length-drop (omega arith))))

    pub next_fits : (out : List ℕ) (at : ℕ) → at + length (bytes_of (next_chunk by stream (drop from bytes))) ≤ length out
        → (at + length (block_of (letters_of stream) (stored_as by stream payload)) ≤ length out) × (length payload < 2 ^ 32)
    next_fits out at room = (rw next_is room, rw (e, length-take) (omega arith))
