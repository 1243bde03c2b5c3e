-- `gate_fields::number_of` meets its contract: what is left has the answer of the whole text. Assumes nothing.
use Rattle.std.proofs.Common.{◌≡◌, sym, ◌∙◌, arith}
use Rattle.laws.specs.Lists.{at}
use Rattle.gate_fields.specs.Fields.{digit_value}
use Rattle.gate_fields.proofs.StepLaws.{no-decimal, too_large, goes_on, written}
use Rattle.gate_fields.proofs.number_of.Goals as goal

pub returns-in_err-digit : goal.returns-in_err-digit
returns-in_err-digit c =
    let no = no-decimal c.args.text.now c.loop-byte.byte-index (omega arith) c.loop-byte.number (omega (arith, c.in_err-digit.ensures)) in
    rw (sym c.is_empty.ensures ∙ c.if-is_empty.false) (c.from_residual.ensures ∙ sym no ∙ c.loop-byte.invariant.same)

pub returns-then-digit-gt9 : goal.returns-then-digit-gt9
returns-then-digit-gt9 c =
    let no = no-decimal c.args.text.now c.loop-byte.byte-index (omega arith) c.loop-byte.number (omega (arith, c.in_ok-digit.ensures)) in
    rw (sym c.is_empty.ensures ∙ c.if-is_empty.false) (sym no ∙ c.loop-byte.invariant.same)

pub returns-then-number-gt-MOST : goal.returns-then-number-gt-MOST
returns-then-number-gt-MOST c =
    let value = c.in_ok-digit.ensures in
    let large = too_large c.args.text.now c.loop-byte.byte-index (omega arith) c.loop-byte.number (omega (arith, value)) (omega (arith, value)) in
    rw (sym c.is_empty.ensures ∙ c.if-is_empty.false) (sym large ∙ c.loop-byte.invariant.same)

pub loop-byte-preserved : goal.loop-byte-preserved
loop-byte-preserved c =
    let z = c.args.text.now in
    let i = c.loop-byte.byte-index in
    let value : c.from.result ≡ digit_value (at z i) = c.from.ensures ∙ c.in_ok-digit.ensures.0 in
    record {
      same = rw value (sym (goes_on z i (omega arith) _ (omega (arith, value)) (omega (arith, value))) ∙ c.loop-byte.invariant.same);
      small = omega arith;
    }

pub returns : goal.returns
returns c =
    rw (sym c.is_empty.ensures ∙ c.if-is_empty.false) (sym (written c.args.text.now c.loop-byte.byte-index (omega arith) _) ∙ c.loop-byte.invariant.same)
