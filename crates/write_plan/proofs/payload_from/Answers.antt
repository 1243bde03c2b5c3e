-- `write_plan::payload_from` meets its contract: a part of the stream, as far as it goes. Assumes nothing.
use mathlib.Core.Path.{refl}
use borrow.Author.Tests.{le-leb, lt-leb}
use Rattle.write_plan.proofs.PlanLaws.{payload_none, payload_last, payload_whole}
use Rattle.write_plan.proofs.payload_from.Goals as goal

pub returns-then-stream-from : goal.returns-then-stream-from
returns-then-stream-from c = let h = c.if-stream-from.true in (refl, rw (le-leb _ _ h), payload_none _ _ h)

pub returns-then-stream-from-le-PAYLOAD : goal.returns-then-stream-from-le-PAYLOAD
returns-then-stream-from-le-PAYLOAD c =
    let a = c.args in
    (refl, rw (lt-leb _ _ c.if-stream-from.false), payload_last a.stream.now _ c.if-stream-from-le-PAYLOAD.true)

pub returns : goal.returns
returns c =
    let a = c.args in
    (refl, rw (lt-leb _ _ c.if-stream-from.false), payload_whole a.stream.now a.from)
