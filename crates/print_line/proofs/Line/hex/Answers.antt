-- `print_line::Line::hex` meets its contract: the digits are put as a word. Assumes nothing.
use Rattle.std.proofs.Common.{ap, ◌∙◌, arith}
use Rattle.text.proofs.NumberLaws.{hex_digits}
use Rattle.print_line.specs.Lines.{with_piece}
use Rattle.print_line.proofs.Line.hex.Goals as goal

pub returns : goal.returns
returns c =
    let d = c.hex-count in
    c.word.ensures ∙ ap (with_piece _) (d.ensures.digits ∙ hex_digits d.result _ _ (omega arith) d.ensures.len)
