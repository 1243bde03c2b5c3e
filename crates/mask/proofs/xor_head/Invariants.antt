-- `mask::xor_head` meets its contract: after r rows the bytes below 0x40 + 0x20 r are done, and `mask` is T XORed with the tail's rows before row r.
-- Assumes nothing.
use Prim.Native.Nat.{ℕ, ◌+◌, ◌*◌, ◌≤◌, ◌<◌}
use mathlib.Core.Path.{◌≡◌}
use lib.ListN.{length}
use Rattle.laws.specs.Lists.{at}
use Rattle.laws.proofs.UptoLaws.{Upto}
use Rattle.mask.specs.Video.{xored_head_at}
use Rattle.mask.proofs.HeadLaws.{sofar}
use Rattle.mask.proofs.xor_head.Given as goal

abbrev pub invariant-loop-r : goal.invariant-loop-r
invariant-loop-r l =
    (0x240 ≤ length l.initial.payload) × Upto (xored_head_at l.initial.mask l.initial.payload) l.initial.payload l.payload (0x40 + l.r * 0x20)
    × ((lane : ℕ) → lane < 0x20 → at l.mask lane ≡ sofar l.initial.mask l.initial.payload l.r lane)
