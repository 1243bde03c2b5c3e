-- `write::write_ends` meets its contract: their size is answered, where the output has room for them, and they are put. Assumes nothing.
use mathlib.Core.Path.{refl, sym, ◌∙◌}
use Rattle.std.proofs.lemmas.Result.{err_from_is_err_and}
use Rattle.write.proofs.PieceLaws.{piece_fits}
use Rattle.write.proofs.write_ends.Goals as goal

pub put_ends-requires : goal.put_ends-requires
put_ends-requires c = rw c.ends_size.ensures at (piece_fits _ _ _ c.args.out.now c.written_in.ensures c.in_ok-size.was)

pub returns : goal.returns
returns c = (rw (← c.ends_size.ensures) (sym c.in_ok-size.was ∙ c.written_in.ensures), c.put_ends.ensures.holds)

pub returns-in_err-size : goal.returns-in_err-size
returns-in_err-size c =
    let p = err_from_is_err_and c.from_residual.result c.from_residual.ensures.1 in rw (p.1, p.2)
    ((rw (← c.ends_size.ensures) (sym c.in_err-size.was ∙ c.written_in.ensures), refl))
