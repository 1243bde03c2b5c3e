-- `mask::clear_rows` meets its contract: eight rows for each turn are clear after the first, and the rest are as they were. Assumes nothing.
use Prim.Native.Nat.{◌+◌, ◌*◌, ◌-◌, ◌/◌, ◌≤◌}
use mathlib.Core.Path.{◌≡◌}
use lib.ListN.{length}
use Rattle.laws.proofs.UptoLaws.{Upto}
use Rattle.mask.proofs.ClearLaws.{cleared_at, all}
use Rattle.mask.proofs.clear_rows.Given as goal

abbrev pub invariant-loop-turn : goal.invariant-loop-turn
invariant-loop-turn l =
    (0x20 ≤ length l.initial.rows) × (l.turns ≡ (length l.initial.rows - 0x20) / 0x100)
    × Upto (cleared_at all l.v l.initial.rows) l.initial.rows l.rows (l.turn * 0x100 + 0x20)
