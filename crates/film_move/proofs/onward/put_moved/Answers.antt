-- `film_move::onward::put_moved` meets its contract: what is written without a payload, the turns over its ends, and the ends after them. Assumes nothing.
use Rattle.old_film.specs.Finding.{parts_of}
use Rattle.film_move.proofs.FromLaws.{start_is, moved-fits, ends_fit, film-moved}
use Rattle.film_move.proofs.onward.put_moved.Goals as goal

pub overflow_sub-start : goal.overflow_sub-start
overflow_sub-start c =
    (start_is (parts_of c.args.container.now).name c.args.packing c.requires.1 c.args.frame _ c.requires.2 c.ends_size.ensures).0

pub move_turns-at-requires : goal.move_turns-at-requires
move_turns-at-requires c =
    moved-fits c.args.container.now c.args.film c.requires.0 c.args.packing c.requires.1 c.args.frame c.requires.2 c.args.out.now
    c.requires.3 c.part_at-name.ensures.2 c.write.ensures c.ends_size.ensures c.left_from-left.ensures c.part_at-chunks.ensures.2

pub put_ends-requires : goal.put_ends-requires
put_ends-requires c =
    ends_fit c.args.container.now c.args.film c.requires.0 c.args.packing c.requires.1 c.args.frame c.requires.2 c.args.out.now
    c.requires.3 c.part_at-name.ensures.2 c.write.ensures c.ends_size.ensures c.left_from-left.ensures c.part_at-chunks.ensures.2 c.move_turns-at.ensures

pub returns : goal.returns
returns c =
    film-moved c.args.container.now c.args.film c.requires.0 c.args.packing c.requires.1 c.args.frame c.requires.2 c.args.out.now
    c.requires.3 c.part_at-name.ensures.2 c.write.ensures c.ends_size.ensures c.left_from-left.ensures c.part_at-chunks.ensures.2 c.move_turns-at.ensures
    c.put_ends.ensures
