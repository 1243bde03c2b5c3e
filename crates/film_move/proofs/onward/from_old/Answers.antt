-- `film_move::onward::from_old` meets its contract: a law for each answer. Assumes nothing.
use mathlib.Core.Path.{sym, ap, ◌∙◌}
use Rattle.write_plan.specs.declared.Packing.{Packing}
use Rattle.write_plan.specs.Planning.{refused_by}
use Rattle.film_move.proofs.FromLaws.{is_film_lem, from_long, from_film, from_foreign}
use Rattle.film_move.proofs.onward.from_old.Goals as goal

pub returns-then-container-gt-LONGEST : goal.returns-then-container-gt-LONGEST
returns-then-container-gt-LONGEST c =
    from_long c.args.container.now c.args.mpeg_codec c.args.audio_codec c.args.out.now _ c.if-container-gt-LONGEST.true c.refused.ensures

pub move_film-requires : goal.move_film-requires
move_film-requires c =
    (c.if-container-gt-LONGEST.false, (is_film_lem c.args.container.now _ (sym c.find.ensures ∙ c.in-Some.is)).1, ap (λ (p : Packing). p.key) c.packing_of-packing.ensures)

pub returns-in-Some : goal.returns-in-Some
returns-in-Some c =
    from_film c.args.container.now c.args.mpeg_codec c.args.audio_codec c.args.out.now _ _ _ _ c.if-container-gt-LONGEST.false
    (sym c.find.ensures ∙ c.in-Some.is) c.packing_of-packing.ensures c.move_film.ensures

pub returns-in-None : goal.returns-in-None
returns-in-None c =
    from_foreign c.args.container.now c.args.mpeg_codec c.args.audio_codec c.args.out.now _ c.if-container-gt-LONGEST.false
    (sym c.find.ensures ∙ c.in-None.is) (c.refused-in-None.ensures ∙ ap refused_by c.cause_of.ensures)
