-- `old_film::ends_stand` meets its contract: one end after the other. Assumes nothing.
use Rattle.std.proofs.Common.{◌≡◌, ℕ, ◌+◌, ◌-◌, ◌<◌, true, false, sym, ap, ◌∙◌, arith}
use Rattle.old_film.specs.Finding.{closes_with}
use Rattle.old_film.proofs.EndLaws.{end_fits, ends_more, ends_not, ends_last}
use Rattle.old_film.proofs.ends_stand.Goals as goal

pub overflow_add-at : goal.overflow_add-at
overflow_add-at c = omega (arith, end_fits c.args.container.now c.loop-audio.at (sym c.end_stands.ensures ∙ c.if-not-end_stands.false))

pub loop-audio-preserved : goal.loop-audio-preserved
loop-audio-preserved c =
    let l = c.loop-audio in
    let some : 0 < c.args.count - l._audio = omega arith in
    let less : c.args.count - (l._audio + 1) ≡ c.args.count - l._audio - 1 = omega arith in
    ap (λ (n : ℕ). closes_with c.args.container.now (l.at + 28) n) less
    ∙ ends_more c.args.container.now l.at (c.args.count - l._audio) some (sym c.end_stands.ensures ∙ c.if-not-end_stands.false) ∙ l.invariant

pub returns-then-not-end_stands : goal.returns-then-not-end_stands
returns-then-not-end_stands c =
    let l = c.loop-audio in
    let some : 0 < c.args.count - l._audio = omega arith in
    ends_not c.args.container.now l.at (c.args.count - l._audio) some (sym c.end_stands.ensures ∙ c.if-not-end_stands.true) ∙ l.invariant

pub returns-then-end_stands : goal.returns-then-end_stands
returns-then-end_stands c =
    let l = c.loop-audio in
    let none : c.args.count - l._audio ≡ 0 = omega arith in
    rw c.left_from.ensures (ends_last c.args.container.now l.at (c.args.count - l._audio) none true (sym c.end_stands-2.ensures ∙ c.if-end_stands.true) ∙ l.invariant)

pub returns-else-end_stands : goal.returns-else-end_stands
returns-else-end_stands c =
    let l = c.loop-audio in
    let none : c.args.count - l._audio ≡ 0 = omega arith in
    rw c.if-end_stands.false
    (ends_last c.args.container.now l.at (c.args.count - l._audio) none false (sym c.end_stands-2.ensures ∙ c.if-end_stands.false) ∙ l.invariant)
