-- `film_move::onward::move_film` meets its contract: what is refused of the film without its payloads is refused of it. Assumes nothing.
use mathlib.Core.Path.{refl, ap, ◌∙◌}
use Rattle.std.proofs.lemmas.Result.{err_from_is_err_and}
use Rattle.lent.specs.Written.{written_in}
use Rattle.film_move.proofs.FromLaws.{plan-named, plan_refused}
use Rattle.film_move.proofs.onward.move_film.Goals as goal

pub move_turned-requires : goal.move_turned-requires
move_turned-requires c = (
  c.requires.0,
  c.requires.1,
  c.requires.2,
  plan-named c.args.container.now c.args.film c.requires.1 c.args.packing _ _ c.part_at-name.ensures.2 c.plan.ensures ∙ c.in_ok-frame.was,
)

pub returns-in_err-frame : goal.returns-in_err-frame
returns-in_err-frame c =
    let bare = plan-named c.args.container.now c.args.film c.requires.1 c.args.packing _ _ c.part_at-name.ensures.2 c.plan.ensures in
    let p = err_from_is_err_and c.from_residual.result c.from_residual.ensures.1 in rw (p.1, p.2)
    ((ap (written_in _) (plan_refused _ c.args.packing c.requires.2 _ _ _ (bare ∙ c.in_err-frame.was)), refl))
