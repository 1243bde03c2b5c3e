-- `gate_sample::digest` meets its contract: the digest so far, with the bytes left, is the digest of all. Assumes nothing.
use Rattle.std.proofs.Common.{◌≡◌, ◌<◌, drop}
use Rattle.gate_sample.specs.Recorded.{digest_from, digest_of}
use Rattle.gate_sample.proofs.digest.Given as goal

abbrev pub invariant-loop-byte : goal.invariant-loop-byte
invariant-loop-byte l = record {
  small : l.h < 4294967291;
  left : digest_from l.h (drop l.byte-index l.bytes) ≡ digest_of l.bytes;
}
