-- `write_plan::any_marked` meets its contract: the payloads that are left have the answer of all. Assumes nothing.
use Rattle.std.proofs.Common.{List, ℕ, sym, ap, ◌∙◌}
use Rattle.std.specs.Slice.Iter.{chunks_rest, chunks_size}
use Rattle.write_plan.specs.Payloads.{payloads_of}
use Rattle.write_plan.specs.Planning.{any_marked}
use Rattle.write_plan.proofs.PlanLaws.{marked_here, unmarked_more, unmarked_none, piece_is}
use Rattle.write_plan.proofs.any_marked.Goals as goal

pub returns-then-stands_at : goal.returns-then-stands_at
returns-then-stands_at c =
    let l = c.loop-payload in
    let left = chunks_rest l.payload-iterator in
    let steps = c.in-Some.ensures.steps in
    let p = piece_is (chunks_size l.payload-iterator) left c.in-Some.payload.now (chunks_rest c.next.new.self) l.invariant.size steps.1.0 steps.1.1 in
    sym (sym l.invariant.left ∙ marked_here left (rw p.0 (sym c.stands_at.ensures ∙ c.if-stands_at.true)))

pub loop-payload-preserved : goal.loop-payload-preserved
loop-payload-preserved c =
    let l = c.loop-payload in
    let left = chunks_rest l.payload-iterator in
    let steps = c.in-Some.ensures.steps in
    let p = piece_is (chunks_size l.payload-iterator) left c.in-Some.payload.now (chunks_rest c.next.new.self) l.invariant.size steps.1.0 steps.1.1 in
    record {
      size = steps.0 ∙ l.invariant.size;
      left =
          ap (λ (r : List ℕ). any_marked (payloads_of r)) (sym p.1)
          ∙ sym (unmarked_more left (rw p.0 (sym c.stands_at.ensures ∙ c.if-stands_at.false))) ∙ l.invariant.left;
    }

pub returns : goal.returns
returns c =
    let l = c.loop-payload in
    sym (sym l.invariant.left ∙ unmarked_none (chunks_rest l.payload-iterator) c.in-None.ensures.steps.1.0)
