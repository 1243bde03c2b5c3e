-- `chunk_lines::put_line` meets its contract: its five words are put one after the other, and each fits where the line does. Assumes nothing.
use native.Mathlib.Omega.{arith}
use Rattle.chunk_lines.specs.Lines.{line_of}
use Rattle.laws.proofs.PutLaws.{put_then}
use Rattle.chunk_lines.proofs.LineLaws.{line_length_lem}
use Rattle.chunk_lines.proofs.put_line.Goals as goal

pub put_number-at-requires : goal.put_number-at-requires
put_number-at-requires c = omega (arith, line_length_lem c.args.chunk)

pub put_kind-at-requires : goal.put_kind-at-requires
put_kind-at-requires c =
    omega (arith, line_length_lem c.args.chunk)

pub put_number-at-requires-2 : goal.put_number-at-requires-2
put_number-at-requires-2 c =
    omega (arith, line_length_lem c.args.chunk)

pub put_number-at-requires-3 : goal.put_number-at-requires-3
put_number-at-requires-3 c =
    omega (arith, line_length_lem c.args.chunk)

pub put_number-requires : goal.put_number-requires
put_number-requires c =
    omega (arith, line_length_lem c.args.chunk)

pub returns : goal.returns
unfolding line_of
returns c =
    put_then (put_then (put_then (put_then c.put_number-at.ensures c.put_kind-at.ensures) c.put_number-at-2.ensures) c.put_number-at-3.ensures)
    c.put_number.ensures
