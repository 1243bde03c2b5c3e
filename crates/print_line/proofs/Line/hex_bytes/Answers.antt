-- `print_line::Line::hex_bytes` meets its contract: digits that fit are put after the line, two for each byte. Assumes nothing.
use Rattle.std.proofs.Common.{arith}
use Rattle.text.specs.Numbers.{hex_bytes}
use Rattle.print_line.proofs.PieceLaws.{left_out, put_after, hex_length}
use Rattle.print_line.proofs.Line.hex_bytes.Goals as goal

pub returns-then-saturating_sub-part : goal.returns-then-saturating_sub-part
returns-then-saturating_sub-part c =
    let a = c.args in
    left_out a.self (hex_bytes a.part.now) (omega (arith, hex_length a.part.now))

pub overflow_add-result : goal.overflow_add-result
overflow_add-result c =
    let a = c.args in
    omega (arith, c.put_hex_bytes-count.ensures.ends, hex_length a.part.now)

pub returns : goal.returns
returns c =
    let a = c.args in
    put_after a.self (hex_bytes a.part.now) _ _ (omega (arith, hex_length a.part.now)) c.put_hex_bytes-count.ensures
