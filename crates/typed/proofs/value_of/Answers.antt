-- `typed::value_of` meets its contract, byte by byte. Assumes nothing.
use Rattle.std.proofs.Common.{◌∙◌, arith}
use Rattle.typed.proofs.TypedLaws.{next_digit, no_digit, too_large, no_more}
use Rattle.typed.proofs.value_of.Goals as goal

pub returns-in_default : goal.returns-in_default
returns-in_default c =
    let l = c.loop-byte in
    let none = rw c.from.ensures at c.in_default.ensures.value in
    no_digit c.args.base l.value c.args.digits.now l.byte-index (omega arith) (omega arith) (omega (arith, none)) ∙ l.invariant

pub returns-in_default-checked_mul : goal.returns-in_default-checked_mul
returns-in_default-checked_mul c =
    let l = c.loop-byte in
    let digit = rw c.from.ensures at c.in-Some.ensures.value in
    let long = rw c.from-in-loop-byte.ensures at c.in_default-checked_mul.ensures in
    too_large c.args.base l.value c.args.digits.now l.byte-index (omega arith) (omega arith) c.in-Some.digit digit.1 (omega (arith, digit)) (omega (arith, long))
    ∙ l.invariant

pub returns-in_default-checked_add : goal.returns-in_default-checked_add
returns-in_default-checked_add c =
    let l = c.loop-byte in
    let digit = rw c.from.ensures at c.in-Some.ensures.value in
    let raised = rw c.from-in-loop-byte.ensures at c.in-Some-checked_mul.ensures in
    let long = rw (c.from-in-loop-byte-2.ensures, raised.1) at c.in_default-checked_add.ensures in
    too_large c.args.base l.value c.args.digits.now l.byte-index (omega arith) (omega arith) c.in-Some.digit digit.1 (omega (arith, digit)) (omega (arith, long))
    ∙ l.invariant

pub loop-byte-preserved : goal.loop-byte-preserved
loop-byte-preserved c =
    let l = c.loop-byte in
    let digit = rw c.from.ensures at c.in-Some.ensures.value in
    let raised = rw c.from-in-loop-byte.ensures at c.in-Some-checked_mul.ensures in
    let next = rw (c.from-in-loop-byte-2.ensures, raised.1) at c.in-Some-checked_add.ensures in
    rw next.1 (next_digit c.args.base l.value c.args.digits.now l.byte-index (omega arith) (omega arith) c.in-Some.digit digit.1 (omega (arith, digit)) (omega (arith, next)))
    ∙ l.invariant

pub returns : goal.returns
returns c = no_more c.args.base c.loop-byte.value c.args.digits.now c.loop-byte.byte-index (omega arith) ∙ c.loop-byte.invariant
