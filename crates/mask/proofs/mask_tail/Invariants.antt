-- `mask::mask_tail` meets its contract: after r rows the bytes below 0x140 + 0x20 r are stored, and `mask` is what the next row is XORed with.
-- Assumes nothing.
use Prim.Native.Nat.{ℕ, ◌+◌, ◌*◌, ◌≤◌, ◌<◌, ◌-◌, ◌/◌}
use mathlib.Core.Path.{◌≡◌}
use lib.ListN.{length}
use Rattle.laws.specs.Lists.{at}
use Rattle.laws.proofs.UptoLaws.{Upto}
use Rattle.mask.specs.Video.{stored, with_tail_at}
use Rattle.mask.proofs.TailLaws.{prior}
use Rattle.mask.proofs.mask_tail.Given as goal

abbrev pub invariant-loop-r : goal.invariant-loop-r
invariant-loop-r l =
    (0x140 ≤ length l.initial.payload) × (l.rows ≡ (length l.initial.payload - 0x140) / 0x20)
    × Upto (with_tail_at (stored l.v l.initial.payload) l.initial.payload) l.initial.payload l.payload (0x140 + l.r * 0x20)
    × ((lane : ℕ) → lane < 0x20 → at l.mask lane ≡ prior l.v l.initial.payload l.r lane)
