-- `print_line::Line::decimal` meets its contract: the digits are put as a word. Assumes nothing.
use Rattle.std.proofs.Common.{ap, ◌∙◌, arith}
use Rattle.text.proofs.NumberLaws.{decimal_digits}
use Rattle.print_line.specs.Lines.{with_piece}
use Rattle.print_line.proofs.Line.decimal.Goals as goal

pub returns : goal.returns
returns c =
    let d = c.decimal-count in
    c.word.ensures ∙ ap (with_piece _) (d.ensures.digits ∙ decimal_digits d.result _ (omega arith) d.ensures.len)
