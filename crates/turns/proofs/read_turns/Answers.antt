-- `turns::read_turns` meets its contract: what is read so far, with what is read from here on, is all. Assumes nothing.
use Rattle.std.proofs.Common.{◌≡◌, true, false, ◌||◌}
use Rattle.turns.proofs.TurnLaws.{from_place, all_turns, turn_less, next-turn, turns_done}
use Rattle.turns.proofs.read_turns.Goals as goal
use Rattle.turns.proofs.read_turns.Goals.{then-seen, else-seen+then-heard}

pub loop-seen-init : goal.loop-seen-init
loop-seen-init c = all_turns _ _ _

pub loop-seen-smaller : goal.loop-seen-smaller
loop-seen-smaller c =
    let a = c.args in
    let l = c.loop-seen in
    let test : (l.seen || l.heard) ≡ true =
    elim c.if-seen.branch [ then-seen w ↦ rw w.if-seen.true | else-seen+then-heard w ↦ rw (w.if-seen.false, w.if-heard.true) ] in
    let answers = rw (from_place a.bytes.now l.place) at c.turn_in-turn.ensures in
    turn_less a.form a.audio a.bytes.now l.place l.from l.seen l.heard c.turn_in-turn.result test l.invariant.within answers

pub loop-seen-preserved : goal.loop-seen-preserved
loop-seen-preserved c =
    let a = c.args in
    let l = c.loop-seen in
    let test : (l.seen || l.heard) ≡ true =
    elim c.if-seen.branch [ then-seen w ↦ rw w.if-seen.true | else-seen+then-heard w ↦ rw (w.if-seen.false, w.if-heard.true) ] in
    let answers = rw (from_place a.bytes.now l.place) at c.turn_in-turn.ensures in
    next-turn a.form a.audio a.bytes.now l.place l.from l.seen l.heard c.turn_in-turn.result test l.invariant.within answers l.video l.sound l.marked l.invariant

pub returns : goal.returns
returns c =
    let l = c.loop-seen in
    let over : (l.seen || l.heard) ≡ false = rw (c.if-seen.false, c.if-heard.false) in
    turns_done _ _ _ l.place l.from l.seen l.heard l.video l.sound l.marked l.invariant over
