-- `film_move::back::put_name` meets its contract: what stands before the name, the name, and zeros. Assumes nothing.
use native.Mathlib.Omega.{arith}
use Rattle.film_move.proofs.OldPutLaws.{head_fits, name_fits, zeros-fit, name-put}
use Rattle.film_move.proofs.back.put_name.Goals as goal

pub put-at-requires : goal.put-at-requires
put-at-requires c =
    let a = c.args in
    rw c.name_head-head.ensures (head_fits a.name.now a.out.now a.at c.requires.0)

pub put-at-requires-2 : goal.put-at-requires-2
put-at-requires-2 c =
    let a = c.args in
    name_fits a.name.now a.out.now a.at c.requires.0 (rw c.name_head-head.ensures at c.put-at.ensures)

pub put_zeros-requires : goal.put_zeros-requires
put_zeros-requires c =
    let a = c.args in
    rw c.padding.ensures (zeros-fit a.name.now a.out.now a.at c.requires.0 (rw c.name_head-head.ensures at c.put-at.ensures) c.put-at-2.ensures, omega arith)

pub returns : goal.returns
returns c =
    let a = c.args in
    name-put a.name.now a.out.now a.at c.requires.0 (rw c.name_head-head.ensures at c.put-at.ensures) c.put-at-2.ensures
    (rw c.padding.ensures at c.put_zeros.ensures)
