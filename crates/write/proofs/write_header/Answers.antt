-- `write::write_header` meets its contract: what is planned is answered, where the output has room for it, and the header is put. Assumes nothing.
use mathlib.Core.Path.{refl, sym, ◌∙◌}
use Rattle.std.proofs.lemmas.Result.{err_from_is_err_and}
use Rattle.write.proofs.PieceLaws.{header_fits}
use Rattle.write.proofs.write_header.Goals as goal

pub put_header-requires : goal.put_header-requires
put_header-requires c =
    let args = c.args in
    header_fits args.name.now args.video _ args.packing _ _ args.out.now _ c.plan_header-planned.ensures c.written_in.ensures c.in_ok-size.was

pub returns : goal.returns
returns c = (rw (← c.plan_header-planned.ensures) (sym c.in_ok-size.was ∙ c.written_in.ensures), c.put_header.ensures.holds)

pub returns-in_err-size : goal.returns-in_err-size
returns-in_err-size c =
    let p = err_from_is_err_and c.from_residual.result c.from_residual.ensures.1 in rw (p.1, p.2)
    ((rw (← c.plan_header-planned.ensures) (sym c.in_err-size.was ∙ c.written_in.ensures), refl))
