-- `text::put_bytes` meets its contract: with the bytes that are left put after it, what stands there is the whole. Assumes nothing.
use Rattle.std.proofs.Common.{◌+◌, drop}
use Rattle.laws.proofs.PutLaws.{Left}
use Rattle.text.proofs.put_bytes.Given as goal

abbrev pub invariant-loop-i : goal.invariant-loop-i
invariant-loop-i l = Left (drop l.i l.bytes) l.out (l.place + l.i) l.bytes l.initial.out l.place
