-- `print_line::Line::word` meets its contract: a word that fits is put after the line. Assumes nothing.
use Rattle.std.proofs.Common.{arith}
use Rattle.print_line.proofs.PieceLaws.{left_out, put_after}
use Rattle.print_line.proofs.Line.word.Goals as goal

pub returns-then-saturating_sub-word : goal.returns-then-saturating_sub-word
returns-then-saturating_sub-word c =
    let a = c.args in
    left_out a.self a.word.now (omega arith)

pub returns : goal.returns
returns c =
    let a = c.args in
    put_after a.self a.word.now _ _ (omega arith) c.put_bytes-count.ensures
