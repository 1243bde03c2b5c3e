-- `utf8::is_utf8` meets its contract: what is due, with the bytes from here on, has the answer of all. Assumes nothing.
use Rattle.std.proofs.Common.{◌≡◌, drop}
use Rattle.utf8.specs.Utf8.{utf8_from, is_utf8}
use Rattle.utf8.proofs.is_utf8.Given as goal

abbrev pub invariant-loop-byte : goal.invariant-loop-byte
invariant-loop-byte l = utf8_from l.now (drop l.byte-index l.bytes) ≡ is_utf8 l.bytes
