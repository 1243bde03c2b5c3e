-- `write::write_head` meets its contract: 0x20 bytes are answered, where the output has room for them, and put. Assumes nothing.
use mathlib.Core.Path.{refl, sym, ◌∙◌}
use Rattle.std.proofs.lemmas.Result.{err_from_is_err_and}
use native.Mathlib.Omega.{arith}
use Rattle.write.proofs.PieceLaws.{piece_fits}
use Rattle.write.proofs.write_head.Goals as goal

pub put_head-requires : goal.put_head-requires
put_head-requires c = (piece_fits 0x20 _ _ c.args.out.now c.written_in.ensures c.in_ok-size.was, omega arith)

pub returns : goal.returns
returns c =
    (sym c.in_ok-size.was ∙ c.written_in.ensures, rw (← c.letters_of.ensures) c.put_head.ensures.holds)

pub returns-in_err-size : goal.returns-in_err-size
returns-in_err-size c =
    let p = err_from_is_err_and c.from_residual.result c.from_residual.ensures.1 in rw (p.1, p.2)
    ((sym c.in_err-size.was ∙ c.written_in.ensures, refl))
