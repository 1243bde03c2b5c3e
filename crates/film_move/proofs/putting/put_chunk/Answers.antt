-- `film_move::putting::put_chunk` meets its contract: its head, the gap, the payload and its padding. Assumes nothing.
use native.Mathlib.Omega.{arith}
use Rattle.turns.proofs.ChunkLaws.{shape_fits}
use Rattle.film_move.proofs.PutLaws.{head_fits, gap_has_room, payload-fits, pads-have-room, chunk-put}
use Rattle.film_move.proofs.putting.put_chunk.Goals as goal

pub put-at-requires : goal.put-at-requires
put-at-requires c =
    let a = c.args in
    let room = c.requires.0 in
    rw c.head_by-head.ensures (head_fits a.form a.track a.from a.payload.now a.out.now a.at room c.shape_of-shape.result c.shape_of-shape.ensures)

pub put_zeros-at-requires : goal.put_zeros-at-requires
put_zeros-at-requires c =
    let a = c.args in
    let room = c.requires.0 in
    (gap_has_room a.form a.track a.from a.payload.now a.out.now a.at room c.shape_of-shape.result c.shape_of-shape.ensures (rw c.head_by-head.ensures at c.put-at.ensures), omega (arith, shape_fits _ _ _ _ _ c.shape_of-shape.ensures))

pub put-at-requires-2 : goal.put-at-requires-2
put-at-requires-2 c =
    let a = c.args in
    let room = c.requires.0 in
    payload-fits a.form a.track a.from a.payload.now a.out.now a.at room c.shape_of-shape.result c.shape_of-shape.ensures (rw c.head_by-head.ensures at c.put-at.ensures) c.put_zeros-at.ensures

pub put_zeros-requires : goal.put_zeros-requires
put_zeros-requires c =
    let a = c.args in
    let room = c.requires.0 in
    (pads-have-room a.form a.track a.from a.payload.now a.out.now a.at room c.shape_of-shape.result c.shape_of-shape.ensures (rw c.head_by-head.ensures at c.put-at.ensures) c.put_zeros-at.ensures c.put-at-2.ensures, omega (arith, shape_fits _ _ _ _ _ c.shape_of-shape.ensures))

pub returns : goal.returns
returns c =
    let a = c.args in
    let room = c.requires.0 in
    chunk-put a.form a.track a.from a.payload.now a.out.now a.at room c.shape_of-shape.result c.shape_of-shape.ensures (rw c.head_by-head.ensures at c.put-at.ensures) c.put_zeros-at.ensures c.put-at-2.ensures c.put_zeros.ensures
