-- `mask::xor_rows` meets its contract: after r rows the bytes below 0x20 r are XORed, and the rest are as they were. Assumes nothing.
use Prim.Native.Nat.{◌*◌, ◌/◌}
use mathlib.Core.Path.{◌≡◌}
use lib.ListN.{length}
use Rattle.laws.proofs.UptoLaws.{Upto}
use Rattle.mask.proofs.AudioLaws.{rows_at}
use Rattle.mask.proofs.xor_rows.Given as goal

abbrev pub invariant-loop-r : goal.invariant-loop-r
invariant-loop-r l = (l.whole ≡ length l.initial.rows / 0x20) × Upto (rows_at l.a l.initial.rows) l.initial.rows l.rows (l.r * 0x20)
