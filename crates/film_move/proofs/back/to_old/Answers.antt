-- `film_move::back::to_old` meets its contract: a law for each answer. Assumes nothing.
use mathlib.Core.Path.{sym, ◌∙◌}
use Rattle.film_move.proofs.ToLaws.{is_film_lem, to_long, to_foreign}
use Rattle.film_move.proofs.back.to_old.Goals as goal

pub returns-then-container-gt-LONGEST : goal.returns-then-container-gt-LONGEST
returns-then-container-gt-LONGEST c =
    to_long c.args.container.now c.args.out.now _ c.if-container-gt-LONGEST.true c.refused.ensures

pub move_back-requires : goal.move_back-requires
move_back-requires c =
    let film = is_film_lem c.args.container.now _ (sym c.find.ensures ∙ c.in-Some.is) in
    (c.if-container-gt-LONGEST.false, film.0, film.1)

pub returns-in-Some : goal.returns-in-Some
returns-in-Some c = c.move_back.ensures

pub returns-in-None : goal.returns-in-None
returns-in-None c =
    to_foreign c.args.container.now c.args.out.now _ c.if-container-gt-LONGEST.false (sym c.find.ensures ∙ c.in-None.is) c.refused-in-None.ensures
