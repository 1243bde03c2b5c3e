-- `film_move::putting::move_turns` meets its contract: what is put, with the turns from here on put after it, is what all turns leave. Assumes nothing.
use Prim.Native.Nat.{ℕ, ◌+◌, ◌-◌, ◌≤◌}
use mathlib.Core.Path.{◌≡◌, sym, ap, ◌∙◌}
use mathlib.Core.Bool.{true, ◌||◌}
use mathlib.Core.List.{List}
use native.Mathlib.Omega.{arith}
use lib.ListN.{length}
use Rattle.part.specs.Parts.{part_at}
use Rattle.turns.specs.Chunks.{gap_of}
use Rattle.turns.proofs.TurnLaws.{from_place, end_fits, turn_less}
use Rattle.film_move.proofs.PutLaws.{move_all, v_few, a_few, v_part, a_part, middle_fits, video-fits, audio-fits, turn_moved, moved_all}
use borrow.Author.Rules.{rules}
use Rattle.film_move.proofs.putting.move_turns.Goals as goal
use Rattle.film_move.proofs.putting.move_turns.Goals.{then-seen, else-seen+then-heard}

pub loop-seen-init : goal.loop-seen-init
loop-seen-init c = move_all _ _ _ _ _ _

pub slice_bounds-turn_in-count : goal.slice_bounds-turn_in-count
slice_bounds-turn_in-count c = omega (arith, c.loop-seen.invariant.within)

pub slice_bounds-turn_in-start : goal.slice_bounds-turn_in-start
slice_bounds-turn_in-start c = search (rules, c.loop-seen.invariant.within)

pub slice_bounds-payload_of-count : goal.slice_bounds-payload_of-count
slice_bounds-payload_of-count c = omega (arith, c.loop-seen.invariant.within)

pub slice_bounds-payload_of-start : goal.slice_bounds-payload_of-start
slice_bounds-payload_of-start c = search (rules, c.loop-seen.invariant.within)

pub overflow_cast-v : goal.overflow_cast-v
overflow_cast-v c = omega (arith, c.turn_in-turn.ensures.1)

pub overflow_add-middle : goal.overflow_add-middle
overflow_add-middle c =
    let a = c.args in
    let test : (c.loop-seen.seen || c.loop-seen.heard) ≡ true =
    elim c.if-seen.branch [ then-seen w ↦ rw w.if-seen.true | else-seen+then-heard w ↦ rw (w.if-seen.false, w.if-heard.true) ] in
    let answers = rw (from_place a.bytes.now c.loop-seen.place) at c.turn_in-turn.ensures in
    omega (arith, middle_fits a.old a.new a.audio a.bytes.now a.out.now a.start c.loop-seen.out c.loop-seen.at c.loop-seen.place c.loop-seen.from c.loop-seen.seen c.loop-seen.heard c.turn_in-turn.result test c.loop-seen.invariant.within answers, c.chunk_size.ensures)

pub slice_bounds-payload_of-count-in-loop-seen : goal.slice_bounds-payload_of-count-in-loop-seen
slice_bounds-payload_of-count-in-loop-seen c =
    let a = c.args in
    let test : (c.loop-seen.seen || c.loop-seen.heard) ≡ true =
    elim c.if-seen.branch [ then-seen w ↦ rw w.if-seen.true | else-seen+then-heard w ↦ rw (w.if-seen.false, w.if-heard.true) ] in
    let answers = rw (from_place a.bytes.now c.loop-seen.place) at c.turn_in-turn.ensures in
    omega (arith, middle_fits a.old a.new a.audio a.bytes.now a.out.now a.start c.loop-seen.out c.loop-seen.at c.loop-seen.place c.loop-seen.from c.loop-seen.seen c.loop-seen.heard c.turn_in-turn.result test c.loop-seen.invariant.within answers, c.chunk_size.ensures)

pub slice_bounds-payload_of-start-in-loop-seen : goal.slice_bounds-payload_of-start-in-loop-seen
slice_bounds-payload_of-start-in-loop-seen c =
    let a = c.args in
    let test : (c.loop-seen.seen || c.loop-seen.heard) ≡ true =
    elim c.if-seen.branch [ then-seen w ↦ rw w.if-seen.true | else-seen+then-heard w ↦ rw (w.if-seen.false, w.if-heard.true) ] in
    let answers = rw (from_place a.bytes.now c.loop-seen.place) at c.turn_in-turn.ensures in
    let fits : c.loop-seen.place + c.chunk_size.result ≤ length a.bytes.now = omega (arith, middle_fits a.old a.new a.audio a.bytes.now a.out.now a.start c.loop-seen.out c.loop-seen.at c.loop-seen.place c.loop-seen.from c.loop-seen.seen c.loop-seen.heard c.turn_in-turn.result test c.loop-seen.invariant.within answers, c.chunk_size.ensures) in
    search (rules, fits)

pub put_next-next-requires : goal.put_next-next-requires
put_next-next-requires c =
    let a = c.args in
    let test : (c.loop-seen.seen || c.loop-seen.heard) ≡ true =
    elim c.if-seen.branch [ then-seen w ↦ rw w.if-seen.true | else-seen+then-heard w ↦ rw (w.if-seen.false, w.if-heard.true) ] in
    let answers = rw (from_place a.bytes.now c.loop-seen.place) at c.turn_in-turn.ensures in
    let seen_is = c.payload_of-video.ensures.2 ∙ ap (λ (b : List ℕ). part_at b (28 + gap_of a.old) c.turn_in-turn.result.video) (from_place a.bytes.now c.loop-seen.place) ∙ v_part a.old a.new a.audio a.bytes.now a.out.now a.start c.loop-seen.out c.loop-seen.at c.loop-seen.place c.loop-seen.from c.loop-seen.seen c.loop-seen.heard c.turn_in-turn.result test c.loop-seen.invariant.within answers in
    rw seen_is (video-fits a.old a.new a.audio a.bytes.now a.out.now a.start c.loop-seen.out c.loop-seen.at c.loop-seen.place c.loop-seen.from c.loop-seen.seen c.loop-seen.heard c.turn_in-turn.result test c.loop-seen.invariant.within answers c.loop-seen.invariant c.requires, v_few a.old a.new a.audio a.bytes.now a.out.now a.start c.loop-seen.out c.loop-seen.at c.loop-seen.place c.loop-seen.from c.loop-seen.seen c.loop-seen.heard c.turn_in-turn.result test c.loop-seen.invariant.within answers)

pub put_next-end-requires : goal.put_next-end-requires
put_next-end-requires c =
    let a = c.args in
    let test : (c.loop-seen.seen || c.loop-seen.heard) ≡ true =
    elim c.if-seen.branch [ then-seen w ↦ rw w.if-seen.true | else-seen+then-heard w ↦ rw (w.if-seen.false, w.if-heard.true) ] in
    let answers = rw (from_place a.bytes.now c.loop-seen.place) at c.turn_in-turn.ensures in
    let seen_is = c.payload_of-video.ensures.2 ∙ ap (λ (b : List ℕ). part_at b (28 + gap_of a.old) c.turn_in-turn.result.video) (from_place a.bytes.now c.loop-seen.place) ∙ v_part a.old a.new a.audio a.bytes.now a.out.now a.start c.loop-seen.out c.loop-seen.at c.loop-seen.place c.loop-seen.from c.loop-seen.seen c.loop-seen.heard c.turn_in-turn.result test c.loop-seen.invariant.within answers in
    let heard_is = c.payload_of-sound.ensures.2 ∙ ap (λ (b : List ℕ). part_at b (28 + gap_of a.old) c.turn_in-turn.result.audio) (from_place a.bytes.now (c.loop-seen.place + c.chunk_size.result)) ∙ a_part a.old a.new a.audio a.bytes.now a.out.now a.start c.loop-seen.out c.loop-seen.at c.loop-seen.place c.loop-seen.from c.loop-seen.seen c.loop-seen.heard c.turn_in-turn.result test c.loop-seen.invariant.within answers (c.loop-seen.place + c.chunk_size.result) (ap (λ (n : ℕ). c.loop-seen.place + n) c.chunk_size.ensures) in
    rw heard_is (audio-fits a.old a.new a.audio a.bytes.now a.out.now a.start c.loop-seen.out c.loop-seen.at c.loop-seen.place c.loop-seen.from c.loop-seen.seen c.loop-seen.heard c.turn_in-turn.result test c.loop-seen.invariant.within answers c.loop-seen.invariant c.requires (rw seen_is at c.put_next-next.ensures), a_few a.old a.new a.audio a.bytes.now a.out.now a.start c.loop-seen.out c.loop-seen.at c.loop-seen.place c.loop-seen.from c.loop-seen.seen c.loop-seen.heard c.turn_in-turn.result test c.loop-seen.invariant.within answers)

pub overflow_add-place : goal.overflow_add-place
overflow_add-place c =
    let a = c.args in
    let test : (c.loop-seen.seen || c.loop-seen.heard) ≡ true =
    elim c.if-seen.branch [ then-seen w ↦ rw w.if-seen.true | else-seen+then-heard w ↦ rw (w.if-seen.false, w.if-heard.true) ] in
    let answers = rw (from_place a.bytes.now c.loop-seen.place) at c.turn_in-turn.ensures in
    omega (arith, end_fits a.old a.audio a.bytes.now c.loop-seen.place c.loop-seen.from c.loop-seen.seen c.loop-seen.heard c.turn_in-turn.result test c.loop-seen.invariant.within answers)

pub overflow_add-from : goal.overflow_add-from
overflow_add-from c =
    let a = c.args in
    let test : (c.loop-seen.seen || c.loop-seen.heard) ≡ true =
    elim c.if-seen.branch [ then-seen w ↦ rw w.if-seen.true | else-seen+then-heard w ↦ rw (w.if-seen.false, w.if-heard.true) ] in
    let answers = rw (from_place a.bytes.now c.loop-seen.place) at c.turn_in-turn.ensures in
    omega (arith, c.loop-seen.invariant.ahead test, c.loop-seen.invariant.within)

pub loop-seen-smaller : goal.loop-seen-smaller
loop-seen-smaller c =
    let a = c.args in
    let test : (c.loop-seen.seen || c.loop-seen.heard) ≡ true =
    elim c.if-seen.branch [ then-seen w ↦ rw w.if-seen.true | else-seen+then-heard w ↦ rw (w.if-seen.false, w.if-heard.true) ] in
    let answers = rw (from_place a.bytes.now c.loop-seen.place) at c.turn_in-turn.ensures in
    turn_less a.old a.audio a.bytes.now c.loop-seen.place c.loop-seen.from c.loop-seen.seen c.loop-seen.heard c.turn_in-turn.result test c.loop-seen.invariant.within answers

pub loop-seen-preserved : goal.loop-seen-preserved
loop-seen-preserved c =
    let a = c.args in
    let test : (c.loop-seen.seen || c.loop-seen.heard) ≡ true =
    elim c.if-seen.branch [ then-seen w ↦ rw w.if-seen.true | else-seen+then-heard w ↦ rw (w.if-seen.false, w.if-heard.true) ] in
    let answers = rw (from_place a.bytes.now c.loop-seen.place) at c.turn_in-turn.ensures in
    let seen_is = c.payload_of-video.ensures.2 ∙ ap (λ (b : List ℕ). part_at b (28 + gap_of a.old) c.turn_in-turn.result.video) (from_place a.bytes.now c.loop-seen.place) ∙ v_part a.old a.new a.audio a.bytes.now a.out.now a.start c.loop-seen.out c.loop-seen.at c.loop-seen.place c.loop-seen.from c.loop-seen.seen c.loop-seen.heard c.turn_in-turn.result test c.loop-seen.invariant.within answers in
    let heard_is = c.payload_of-sound.ensures.2 ∙ ap (λ (b : List ℕ). part_at b (28 + gap_of a.old) c.turn_in-turn.result.audio) (from_place a.bytes.now (c.loop-seen.place + c.chunk_size.result)) ∙ a_part a.old a.new a.audio a.bytes.now a.out.now a.start c.loop-seen.out c.loop-seen.at c.loop-seen.place c.loop-seen.from c.loop-seen.seen c.loop-seen.heard c.turn_in-turn.result test c.loop-seen.invariant.within answers (c.loop-seen.place + c.chunk_size.result) (ap (λ (n : ℕ). c.loop-seen.place + n) c.chunk_size.ensures) in
    turn_moved a.old a.new a.audio a.bytes.now a.out.now a.start c.loop-seen.out c.loop-seen.at c.loop-seen.place c.loop-seen.from c.loop-seen.seen c.loop-seen.heard c.turn_in-turn.result test c.loop-seen.invariant.within answers c.loop-seen.invariant c.requires (rw seen_is at c.put_next-next.ensures) (rw heard_is at c.put_next-end.ensures)

pub returns : goal.returns
returns c =
    let a = c.args in
    moved_all a.old a.new a.audio a.bytes.now a.out.now a.start c.loop-seen.out c.loop-seen.at c.loop-seen.place c.loop-seen.from c.loop-seen.seen c.loop-seen.heard c.loop-seen.invariant (rw (c.if-seen.false, c.if-heard.false))
