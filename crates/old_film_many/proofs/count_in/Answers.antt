-- `old_film_many::count_in` meets its contract: those counted, with those from here on, are all. Assumes nothing.
use mathlib.Core.Path.{sym, ◌∙◌}
use native.Mathlib.Omega.{arith}
use Rattle.old_film_many.proofs.CountLaws.{all_counted, there_fits, count_more, count_done}
use Rattle.old_film_many.proofs.count_in.Goals as goal

pub loop-count-init : goal.loop-count-init
loop-count-init c = all_counted _ _

pub is_there-requires : goal.is_there-requires
is_there-requires c = c.requires

pub overflow_add-count : goal.overflow_add-count
overflow_add-count c = omega (arith, c.loop-count.invariant.few)

pub loop-count-smaller : goal.loop-count-smaller
loop-count-smaller c = omega (arith, there_fits c.args.container.now c.args.place c.loop-count.count (sym c.is_there.ensures ∙ c.loop-count-test.true))

pub loop-count-preserved : goal.loop-count-preserved
loop-count-preserved c = count_more _ _ _ c.loop-count.invariant (sym c.is_there.ensures ∙ c.loop-count-test.true)

pub returns : goal.returns
returns c = count_done _ _ _ c.loop-count.invariant (sym c.is_there.ensures ∙ c.loop-count-test.false)
