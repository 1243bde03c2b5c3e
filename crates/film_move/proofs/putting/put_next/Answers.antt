-- `film_move::putting::put_next` meets its contract: without a payload there is no chunk. Assumes nothing.
use mathlib.Core.Path.{sym}
use Rattle.laws.proofs.PutLaws.{put_as, put_none}
use Rattle.film_move.proofs.PutLaws.{next_is, next_none}
use Rattle.film_move.proofs.putting.put_next.Goals as goal

pub returns-then-payload-eq0 : goal.returns-then-payload-eq0
returns-then-payload-eq0 c =
    let a = c.args in
    put_as (put_none a.out.now a.at) (next_none a.form a.track a.from a.payload.now c.if-payload-eq0.true)

pub put_chunk-requires : goal.put_chunk-requires
put_chunk-requires c =
    let a = c.args in
    (rw (next_is a.form a.track a.from a.payload.now c.requires.1 c.if-payload-eq0.false) at c.requires.0, c.requires.1)

pub returns : goal.returns
returns c =
    let a = c.args in
    put_as c.put_chunk.ensures (sym (next_is a.form a.track a.from a.payload.now c.requires.1 c.if-payload-eq0.false))
