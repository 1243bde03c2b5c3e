-- `text::put_hex` meets its contract: the digits that `io::hex` gives are those of `hex`. Assumes nothing.
use Rattle.std.proofs.Common.{◌∙◌, arith}
use Rattle.text.proofs.NumberLaws.{hex_digits}
use Rattle.text.proofs.put_hex.Goals as goal

pub returns : goal.returns
returns c =
    rw (c.hex-count.ensures.digits ∙ hex_digits c.hex-count.result _ _ (omega arith) c.hex-count.ensures.len) at c.put_bytes.ensures
