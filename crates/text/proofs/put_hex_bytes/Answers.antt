-- `text::put_hex_bytes` meets its contract: with the digits of the bytes that are left put after it, what stands there is the whole. Assumes nothing.
use Rattle.std.proofs.Common.{arith}
use Rattle.text.proofs.PutLaws.{hex_put, hex_bytes_put}
use Rattle.text.proofs.put_hex_bytes.Goals as goal

pub loop-i-preserved : goal.loop-i-preserved
loop-i-preserved c =
    rw (c.put_byte-in-loop-i.ensures, c.hex_digit-in-loop-i.ensures, c.put_byte.ensures, c.hex_digit.ensures)
    (hex_put _ _ _ _ _ c.loop-i.invariant (omega arith))

pub returns : goal.returns
returns c = hex_bytes_put _ _ _ _ _ c.loop-i.invariant (omega arith)
