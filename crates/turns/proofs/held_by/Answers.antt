-- `turns::held_by` meets its contract: a payload is there exactly when the chunk that is rebuilt from it is. Assumes nothing.
use mathlib.Core.Path.{sym, ◌∙◌}
use mathlib.Core.Bool.{true}
use native.Mathlib.Omega.{arith}
use Rattle.turns.proofs.ChunkLaws.{shape_fits, none_answers, not_there, too_long, marks_end, another, some-answers}
use Rattle.turns.proofs.held_by.Goals as goal

pub overflow_add-start : goal.overflow_add-start
overflow_add-start c = omega (arith, shape_fits _ _ _ _ _ c.shape_of-shape.ensures)

pub overflow_add-start-2 : goal.overflow_add-start-2
overflow_add-start-2 c = omega (arith, shape_fits _ _ _ _ _ c.shape_of-shape.ensures, c.len_in-len.ensures.1)

pub returns-then-bytes-start : goal.returns-then-bytes-start
returns-then-bytes-start c =
    let a = c.args in
    none_answers a.form a.track a.from true a.bytes.now _ (not_there a.form a.track a.from a.bytes.now c.len_in-len.result c.len_in-len.ensures.0 c.shape_of-shape.result c.shape_of-shape.ensures c.if-bytes-start.true) c.nothing.ensures

pub returns-then-len-gt-PAYLOAD : goal.returns-then-len-gt-PAYLOAD
returns-then-len-gt-PAYLOAD c =
    let a = c.args in
    none_answers a.form a.track a.from true a.bytes.now _ (too_long a.form a.track a.from a.bytes.now c.len_in-len.result c.len_in-len.ensures.0 c.shape_of-shape.result c.shape_of-shape.ensures c.if-bytes-start.false c.if-len-gt-PAYLOAD.true) c.nothing-then-len-gt-PAYLOAD.ensures

pub returns-then-is_end : goal.returns-then-is_end
returns-then-is_end c =
    let a = c.args in
    none_answers a.form a.track a.from true a.bytes.now _ (marks_end a.form a.track a.from a.bytes.now c.len_in-len.result c.len_in-len.ensures.0 c.shape_of-shape.result c.shape_of-shape.ensures c.if-bytes-start.false _ c.part_at-payload.ensures.2 (sym c.is_end.ensures ∙ c.if-is_end.true)) c.nothing-then-is_end.ensures

pub stands_whole-requires : goal.stands_whole-requires
stands_whole-requires c =
    let fits = shape_fits _ _ _ _ _ c.shape_of-shape.ensures in
    (c.if-bytes-start.false, omega arith, omega arith)

pub returns-then-stands_whole : goal.returns-then-stands_whole
returns-then-stands_whole c =
    let a = c.args in
    some-answers a.form a.track a.from a.bytes.now c.len_in-len.result c.len_in-len.ensures.0 c.shape_of-shape.result c.shape_of-shape.ensures c.if-bytes-start.false _ c.part_at-payload.ensures.2 c.if-len-gt-PAYLOAD.false (sym c.stands_whole.ensures ∙ c.if-stands_whole.true) (sym c.is_end.ensures ∙ c.if-is_end.false) _ c.stands_at-marked.ensures

pub returns : goal.returns
returns c =
    let a = c.args in
    none_answers a.form a.track a.from true a.bytes.now _ (another a.form a.track a.from a.bytes.now c.len_in-len.result c.len_in-len.ensures.0 c.shape_of-shape.result c.shape_of-shape.ensures c.if-bytes-start.false (sym c.stands_whole.ensures ∙ c.if-stands_whole.false)) c.nothing-2.ensures
