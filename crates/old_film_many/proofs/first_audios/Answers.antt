-- `old_film_many::first_audios` meets its contract: the chunks so far, with those from here on, are all. Assumes nothing.
use native.Mathlib.Omega.{arith}
use Rattle.old_film_many.proofs.NextLaws.{all_first, first_more, first_done}
use Rattle.old_film_many.proofs.first_audios.Goals as goal

pub loop-number-init : goal.loop-number-init
loop-number-init c = all_first _ _ _ c.requires.0

pub overflow_cast-number : goal.overflow_cast-number
overflow_cast-number c = omega (arith, c.loop-number-test.true, c.requires.1)

pub end_at-next-requires : goal.end_at-next-requires
end_at-next-requires c = c.loop-number.invariant.within

pub loop-number-preserved : goal.loop-number-preserved
loop-number-preserved c =
    first_more _ _ _ c.loop-number.at c.loop-number.number _ c.loop-number.invariant c.loop-number-test.true c.end_at-next.ensures.0 c.end_at-next.ensures.1

pub returns : goal.returns
returns c = first_done _ _ _ c.loop-number.at c.loop-number.number c.loop-number.invariant (omega (arith, c.loop-number-test.false))
