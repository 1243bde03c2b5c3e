-- `chunk_lines::put_number` meets its contract: what stands after the number is put where its digits end. Assumes nothing.
use native.Mathlib.Omega.{arith}
use Rattle.chunk_lines.specs.Lines.{number_then}
use Rattle.laws.proofs.PutLaws.{put_then}
use Rattle.chunk_lines.proofs.LineLaws.{number_length}
use Rattle.chunk_lines.proofs.put_number.Goals as goal

pub overflow_add-end : goal.overflow_add-end
overflow_add-end c =
    let a = c.args in
    omega (arith, c.put_decimal.ensures.ends, number_length a.after.now a.number)

pub put_word-requires : goal.put_word-requires
put_word-requires c =
    let a = c.args in
    omega (arith, c.put_decimal.ensures.ends, number_length a.after.now a.number)

pub returns : goal.returns
unfolding number_then
returns c =
    put_then c.put_decimal.ensures c.put_word.ensures
