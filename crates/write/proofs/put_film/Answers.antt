-- `write::put_film` meets its contract: its header, its chunks and its ends, one after the other. Assumes nothing.
use native.Mathlib.Omega.{arith}
use Rattle.write_plan.proofs.SizeLaws.{film_holds}
use Rattle.write.proofs.FilmPutLaws.{header_fits, chunks_fit, end_fits, film-put}
use Rattle.write.proofs.put_film.Goals as goal

pub put_header-at-requires : goal.put_header-at-requires
put_header-at-requires c =
    (header_fits c.args.name.now c.args.video.now c.args.audio.now c.args.packing c.args.out.now c.requires.0, omega (arith, c.requires.1, film_holds c.args.name.now c.args.video.now c.args.audio.now c.args.packing))

pub put_chunks-at-requires : goal.put_chunks-at-requires
put_chunks-at-requires c =
    (rw c.unmasking_of-unmasking.ensures (chunks_fit c.args.name.now c.args.video.now c.args.audio.now c.args.packing c.args.out.now c.requires.0 c.put_header-at.ensures), omega (arith, c.requires.1, film_holds c.args.name.now c.args.video.now c.args.audio.now c.args.packing), omega (arith, c.requires.1, film_holds c.args.name.now c.args.video.now c.args.audio.now c.args.packing))

pub put_ends-requires : goal.put_ends-requires
put_ends-requires c =
    end_fits c.args.name.now c.args.video.now c.args.audio.now c.args.packing c.args.out.now c.requires.0 c.put_header-at.ensures (rw c.unmasking_of-unmasking.ensures at c.put_chunks-at.ensures)

pub returns : goal.returns
returns c =
    film-put c.args.name.now c.args.video.now c.args.audio.now c.args.packing c.args.out.now c.requires.0 c.put_header-at.ensures (rw c.unmasking_of-unmasking.ensures at c.put_chunks-at.ensures) c.put_ends.ensures
