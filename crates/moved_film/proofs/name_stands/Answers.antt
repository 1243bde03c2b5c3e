-- `moved_film::name_stands` meets its contract: one piece after the other. Assumes nothing.
use mathlib.Core.Path.{sym}
use native.Mathlib.Omega.{arith}
use Rattle.turns.proofs.ChunkLaws.{some_zeros, zeros_length}
use Rattle.moved_film.proofs.FindLaws.{name_stands}
use Rattle.moved_film.proofs.name_stands.Goals as goal

pub slice_bounds-stands_at-end : goal.slice_bounds-stands_at-end
slice_bounds-stands_at-end c = sym (zeros_length c.padding-pads.result (omega (arith, c.padding-pads.ensures)))

pub returns : goal.returns
returns c =
    let a = c.args in
    rw (
      c.both.ensures,
      c.stands_at-5.ensures,
      c.block_head-head.ensures,
      c.both-tabled.ensures,
      c.stands_at-4.ensures,
      c.table_head-table.ensures,
      c.both-celled.ensures,
      c.stands_at-3.ensures,
      c.name_cell-cell.ensures,
      c.both-column.ensures,
      c.stands_at-2.ensures,
      c.both-named.ensures,
      c.stands_at.ensures,
      c.stands_at-zeros.ensures,
      some_zeros c.padding-pads.result (omega (arith, c.padding-pads.ensures)),
      c.padding-pads.ensures,
    ) (sym (name_stands a.name.now a.container.now))
