-- `gate_sample::digest` meets its contract: the digest so far, with the bytes left, is the digest of all. Assumes nothing.
use Rattle.std.proofs.Common.{◌≡◌, ◌<◌, ◌≤◌, ℕ, ◌+◌, List, length, get_or, drop, rules, arith, add-one, drop-cons, drop_of_length-le}
use Rattle.gate_sample.specs.Recorded.{digest_after, digest_from}
use Rattle.gate_sample.proofs.digest.Goals as goal

-- a byte goes from the bytes left into the digest
digest_next : (s : List ℕ) (h i : ℕ) → i < length s → digest_from (digest_after h (get_or s i 0)) (drop (i + 1) s) ≡ digest_from h (drop i s)
unfolding digest_from
digest_next s h i l = rw (add-one i, drop-cons s i 0)

-- no byte is left
digest_end : (s : List ℕ) (h i : ℕ) → length s ≤ i → digest_from h (drop i s) ≡ h
unfolding digest_from
digest_end s h i l = rw drop_of_length-le

pub loop-byte-preserved : goal.loop-byte-preserved
loop-byte-preserved c =
    let l = c.loop-byte in
    record { small = search rules; left = rw (c.digest_after-h.ensures, digest_next c.args.bytes.now l.h l.byte-index (omega arith)) l.invariant.left }

pub returns : goal.returns
returns c =
    let l = c.loop-byte in
    rw (digest_end c.args.bytes.now l.h l.byte-index (omega arith)) at l.invariant.left
