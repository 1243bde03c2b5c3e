-- `old_film_many::next_audios` meets its contract: the chunks of the turn before say whose chunks are next. Assumes nothing.
use native.Mathlib.Omega.{arith}
use Rattle.turns.specs.declared.Form.TheVariants.{Old}
use Rattle.turns.proofs.TurnLaws.{size_holds}
use Rattle.old_film_many.proofs.NextLaws.{all_next, next_more, next_none, next_done}
use Rattle.old_film_many.proofs.next_audios.Goals as goal

pub loop-at-init : goal.loop-at-init
loop-at-init c = all_next _ _ _ _ _ c.requires.1

pub overflow_add-at : goal.overflow_add-at
overflow_add-at c = omega (arith, c.loop-at-test.true, c.requires.0)

pub returns-then-len-eq0 : goal.returns-then-len-eq0
returns-then-len-eq0 c =
    (c.loop-at.invariant.within, next_none _ _ _ _ _ c.loop-at.at c.loop-at.last c.read32-number.result c.len_at-len.result c.read32-number.ensures.0 c.len_at-len.ensures.0 c.loop-at-test.true c.loop-at.invariant c.if-len-eq0.true)

pub overflow_add-from : goal.overflow_add-from
overflow_add-from c = omega (arith, c.requires.2)

pub end_at-next-requires : goal.end_at-next-requires
end_at-next-requires c = c.loop-at.invariant.within

pub overflow_add-at-in-loop-at : goal.overflow_add-at-in-loop-at
overflow_add-at-in-loop-at c =
    omega (arith, c.chunk_size-at.ensures, c.len_at-len.ensures.2, c.loop-at-test.true, c.requires.0)

pub loop-at-smaller : goal.loop-at-smaller
loop-at-smaller c =
    omega (arith, c.chunk_size-at.ensures, size_holds Old c.len_at-len.result, c.if-len-eq0.false, c.loop-at-test.true)

pub loop-at-preserved : goal.loop-at-preserved
loop-at-preserved c =
    rw c.chunk_size-at.ensures (next_more _ _ _ _ _ c.loop-at.at c.loop-at.last c.read32-number.result c.len_at-len.result c.read32-number.ensures.0 c.len_at-len.ensures.0 c.loop-at-test.true c.loop-at.invariant _ c.end_at-next.ensures.0 c.end_at-next.ensures.1)

pub returns : goal.returns
returns c = (c.loop-at.invariant.within, next_done _ _ _ _ _ c.loop-at.at c.loop-at.last (omega (arith, c.loop-at-test.false)) c.loop-at.invariant)
