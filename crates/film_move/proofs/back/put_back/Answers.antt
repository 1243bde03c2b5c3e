-- `film_move::back::put_back` meets its contract: one piece after the other is the film. Assumes nothing.
use Rattle.film_move.proofs.ToLaws.{first_fits, named-few, blocks-fit, turns_fit, ends_fit, film-put}
use Rattle.film_move.proofs.back.put_back.Goals as goal

pub put_name-at-requires : goal.put_name-at-requires
put_name-at-requires c =
    (first_fits c.args.container.now c.requires.1 c.args.film c.requires.2 c.args.out.now c.requires.3 c.part_at-name.ensures.2, named-few c.args.container.now c.requires.1 c.args.film c.requires.2 c.args.out.now c.requires.3 c.part_at-name.ensures.2 c.requires.0)

pub put_blocks-at-requires : goal.put_blocks-at-requires
put_blocks-at-requires c =
    blocks-fit c.args.container.now c.requires.1 c.args.film c.requires.2 c.args.out.now c.requires.3 c.part_at-name.ensures.2 c.put_name-at.ensures

pub move_turns-at-requires : goal.move_turns-at-requires
move_turns-at-requires c =
    turns_fit c.args.container.now c.requires.1 c.args.film c.requires.2 c.args.out.now c.requires.3 c.part_at-name.ensures.2 c.put_name-at.ensures c.put_blocks-at.ensures c.left_from-left.ensures c.part_at-chunks.ensures.2

pub put_ends-requires : goal.put_ends-requires
put_ends-requires c =
    ends_fit c.args.container.now c.requires.1 c.args.film c.requires.2 c.args.out.now c.requires.3 c.part_at-name.ensures.2 c.put_name-at.ensures c.put_blocks-at.ensures c.left_from-left.ensures c.part_at-chunks.ensures.2 c.move_turns-at.ensures

pub returns : goal.returns
returns c =
    film-put c.args.container.now c.requires.1 c.args.film c.requires.2 c.args.out.now c.requires.3 c.part_at-name.ensures.2 c.put_name-at.ensures c.put_blocks-at.ensures c.left_from-left.ensures c.part_at-chunks.ensures.2 c.move_turns-at.ensures c.put_ends.ensures
