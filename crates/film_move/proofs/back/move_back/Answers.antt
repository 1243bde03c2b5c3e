-- `film_move::back::move_back` meets its contract: the size is answered where the output has room for it, and the film is put. Assumes nothing.
use mathlib.Core.Path.{refl, sym, ap, ◌∙◌}
use Rattle.std.proofs.lemmas.Result.{err_from_is_err_and}
use Rattle.lent.specs.Written.{written_in}
use Rattle.lent.proofs.RoomLaws.{planned_so}
use Rattle.film_move.proofs.ToLaws.{lengths-few, size_is, fits-is, planned_is}
use Rattle.film_move.proofs.back.move_back.Goals as goal

pub old_size-size-requires : goal.old_size-size-requires
old_size-size-requires c =
    lengths-few c.args.container.now c.requires.1 c.args.film c.requires.2 c.requires.0

pub put_back-requires : goal.put_back-requires
put_back-requires c =
    let so = planned_so _ _ _ (sym c.written_in.ensures ∙ c.in_ok-size.was) in
    (c.requires.0, c.requires.1, c.requires.2, fits-is c.args.container.now c.requires.1 c.args.film c.requires.2 _ c.old_size-size.ensures _ so)

pub returns : goal.returns
returns c =
    (sym c.in_ok-size.was ∙ c.written_in.ensures ∙ ap (written_in _) (planned_is c.args.container.now c.requires.0 c.requires.1 _ (size_is c.args.container.now c.requires.1 c.args.film c.requires.2 _ c.old_size-size.ensures)), c.put_back.ensures)

pub returns-in_err-size : goal.returns-in_err-size
returns-in_err-size c =
    let p = err_from_is_err_and c.from_residual.result c.from_residual.ensures.1 in rw (p.1, p.2)
    ((sym c.in_err-size.was ∙ c.written_in.ensures ∙ ap (written_in _) (planned_is c.args.container.now c.requires.0 c.requires.1 _ (size_is c.args.container.now c.requires.1 c.args.film c.requires.2 _ c.old_size-size.ensures)), refl))
