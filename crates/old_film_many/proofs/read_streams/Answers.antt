-- `old_film_many::read_streams` meets its contract: what is read so far, with what is read from here on, is all. Assumes nothing.
use Rattle.std.proofs.Common.{◌≡◌, ℕ, ◌+◌, ◌-◌, ◌*◌, ◌/◌, ◌<◌, length, sym, subst, arith}
use Rattle.old_film_many.proofs.StreamLaws.{StreamsLeft, all_streams, next_shows, more_streams, streams_done}
use Rattle.old_film_many.proofs.read_streams.Goals as goal

pub first_turn-turn-requires : goal.first_turn-turn-requires
first_turn-turn-requires c = c.requires

pub overflow_sub-rounds : goal.overflow_sub-rounds
overflow_sub-rounds c = omega (arith, c.requires.0)

pub loop-round-init : goal.loop-round-init
loop-round-init c =
    let a = c.args in
    let rounds = (length a.bytes.now - a.place) / 0x10000 in
    let all : rounds - 0 ≡ rounds = omega arith in
    subst (λ (n : ℕ). StreamsLeft a.bytes.now a.place a.count c.first_turn-turn.result c.first_turn-turn.result.video 0 n) (sym all)
    (all_streams _ _ _ c.first_turn-turn.result c.first_turn-turn.ensures.0 c.first_turn-turn.ensures.1 c.requires.1)

pub overflow_mul-round : goal.overflow_mul-round
overflow_mul-round c = omega (arith, c.loop-round-test.true)

pub next_turn-next-requires : goal.next_turn-next-requires
next_turn-next-requires c = (c.loop-round.invariant.within, omega (arith, c.loop-round.invariant.ahead))

pub overflow_add-video : goal.overflow_add-video
overflow_add-video c =
    let a = c.args in
    let l = c.loop-round in
    let left = (length a.bytes.now - a.place) / 0x10000 - l.round in
    let some : 0 < left = omega (arith, c.loop-round-test.true) in
    omega (arith, next_shows a.bytes.now a.place a.count l.turn l.video (l.round * 0x10000) left l.invariant some c.next_turn-next.result c.next_turn-next.ensures.0 c.next_turn-next.ensures.1, c.next_turn-next.ensures.0)

pub loop-round-preserved : goal.loop-round-preserved
loop-round-preserved c =
    let a = c.args in
    let l = c.loop-round in
    let rounds = (length a.bytes.now - a.place) / 0x10000 in
    let some : 0 < rounds - l.round = omega (arith, c.loop-round-test.true) in
    let from : l.round * 0x10000 + 0x10000 ≡ (l.round + 1) * 0x10000 = omega arith in
    let left : rounds - l.round - 1 ≡ rounds - (l.round + 1) = omega arith in
    rw (sym from, sym left)
    (more_streams _ _ _ l.turn l.video (l.round * 0x10000) (rounds - l.round) l.invariant some c.next_turn-next.result c.next_turn-next.ensures.0 c.next_turn-next.ensures.1)

pub returns : goal.returns
returns c =
    let a = c.args in
    let l = c.loop-round in
    let left = (length a.bytes.now - a.place) / 0x10000 - l.round in
    let none : left ≡ 0 = omega (arith, c.loop-round-test.false) in
    streams_done _ _ _ l.turn l.video (l.round * 0x10000) left l.invariant none
