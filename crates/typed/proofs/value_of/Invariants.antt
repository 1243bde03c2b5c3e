-- `typed::value_of` meets its contract: the bytes that are left make of the value so far what all bytes make of 0. Assumes nothing.
use Rattle.std.proofs.Common.{◌≡◌, drop}
use Rattle.typed.specs.TypedNumbers.{value_from}
use Rattle.typed.proofs.value_of.Given as goal

abbrev pub invariant-loop-byte : goal.invariant-loop-byte
invariant-loop-byte l = value_from l.base l.value (drop l.byte-index l.digits) ≡ value_from l.base 0 l.digits
