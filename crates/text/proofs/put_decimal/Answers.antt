-- `text::put_decimal` meets its contract: the digits that `io::decimal` gives are those of `decimal`. Assumes nothing.
use Rattle.std.proofs.Common.{◌∙◌, arith}
use Rattle.text.proofs.NumberLaws.{decimal_digits}
use Rattle.text.proofs.put_decimal.Goals as goal

pub returns : goal.returns
returns c =
    rw (c.decimal-count.ensures.digits ∙ decimal_digits c.decimal-count.result _ (omega arith) c.decimal-count.ensures.len) at c.put_bytes.ensures
