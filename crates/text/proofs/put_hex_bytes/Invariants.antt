-- `text::put_hex_bytes` meets its contract: with the digits of the bytes that are left put after it, what stands there is the whole. A slice is short enough that
-- twice its length does not wrap. Assumes nothing.
use Rattle.std.proofs.Common.{◌+◌, ◌*◌, drop}
use Rattle.text.specs.Numbers.{hex_bytes}
use Rattle.laws.proofs.PutLaws.{Left}
use Rattle.text.proofs.put_hex_bytes.Given as goal

abbrev pub invariant-loop-i : goal.invariant-loop-i
invariant-loop-i l = Left (hex_bytes (drop l.i l.bytes)) l.out (l.place + 2 * l.i) (hex_bytes l.bytes) l.initial.out l.place
