-- `film_move::onward::plan_turns` meets its contract: a law for each answer. Assumes nothing.
use native.Mathlib.Omega.{arith}
use borrow.Author.Tests.{lt-ltb, le-ltb}
use Rattle.turns.specs.declared.Form.TheVariants.{New}
use Rattle.film_move.proofs.FromLaws.{stream_few}
use Rattle.film_move.proofs.onward.plan_turns.Goals as goal

pub overflow_add-size : goal.overflow_add-size
overflow_add-size c =
    let a = c.args in
    omega (arith, c.stream_size-audio.ensures, c.stream_size-video.ensures, stream_few New a.turns.video, stream_few New a.turns.audio, c.requires.0, c.requires.1, c.requires.2)

pub overflow_add-size-2 : goal.overflow_add-size-2
overflow_add-size-2 c =
    let a = c.args in
    omega (arith, c.stream_size-audio.ensures, c.stream_size-video.ensures, stream_few New a.turns.video, stream_few New a.turns.audio, c.requires.0, c.requires.1, c.requires.2)

pub returns-then-size-gt-LONGEST : goal.returns-then-size-gt-LONGEST
returns-then-size-gt-LONGEST c = rw (← c.stream_size-video.ensures, ← c.stream_size-audio.ensures, lt-ltb _ _ c.if-size-gt-LONGEST.true) c.refused.ensures

pub returns-then-turns : goal.returns-then-turns
returns-then-turns c =
    rw (← c.stream_size-video.ensures, ← c.stream_size-audio.ensures, le-ltb _ _ c.if-size-gt-LONGEST.false, c.if-turns.true) c.refused-then-turns.ensures

pub returns : goal.returns
returns c = rw (← c.stream_size-video.ensures, ← c.stream_size-audio.ensures, le-ltb _ _ c.if-size-gt-LONGEST.false, c.if-turns.false)
