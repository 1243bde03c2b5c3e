-- `chunk_lines::put_refusal` meets its contract: its four words are put one after the other, and a number has at most 20 digits. Assumes nothing.
use native.Mathlib.Omega.{arith}
use Rattle.chunk_lines.specs.Lines.{space, newline, refusal_line}
use Rattle.laws.proofs.PutLaws.{put_then}
use Rattle.chunk_lines.proofs.LineLaws.{number_fits}
use Rattle.chunk_lines.proofs.put_refusal.Goals as goal

pub put_number-at-requires : goal.put_number-at-requires
put_number-at-requires c = omega (arith, number_fits space c.number_of.result)

pub put_word-at-requires-2 : goal.put_word-at-requires-2
put_word-at-requires-2 c =
    omega (arith, number_fits space c.number_of.result)

pub put_number-requires : goal.put_number-requires
put_number-requires c =
    let a = c.args in
    omega (arith, number_fits space c.number_of.result, number_fits newline a.refusal.place)

pub returns : goal.returns
unfolding refusal_line
returns c =
    rw c.number_of.ensures at
    (put_then (put_then (put_then c.put_word-at.ensures c.put_number-at.ensures) c.put_word-at-2.ensures) c.put_number.ensures)
