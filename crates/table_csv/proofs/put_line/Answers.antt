-- `csv::put_line` meets its contract: with the fields that are left put after it, what stands there is the whole line. Records take at most 261 bytes each,
-- cells at most 256, so neither place overflows. Assumes nothing.
use Rattle.std.proofs.Common.{◌≡◌, ◌+◌, ◌-◌, ◌<◌, ◌≤◌, refl, ◌∙◌, arith}
use Rattle.laws.proofs.PutLaws.{all_left, less_left, none_left}
use Rattle.table_csv.proofs.LineLaws.{field_below, mark-below, line-next, line_over, end_next, end_over}
use Rattle.table_csv.proofs.put_line.Goals as goal

pub loop-i-init : goal.loop-i-init
loop-i-init c =
    let all : c.args.layout.columns - 0 ≡ c.args.layout.columns = omega arith in
    (rw all (all_left _ _ _), rw all, omega arith, omega arith)

pub put_answer-middle-requires : goal.put_answer-middle-requires
put_answer-middle-requires c =
    let a = c.args in
    let more : 0 < a.layout.columns - c.loop-i.i = omega arith in
    field_below a.body.now a.layout a.line c.loop-i.entry c.loop-i.at c.cell_on.result _ _ _ c.cell_on.ensures refl refl refl (a.layout.columns - c.loop-i.i) more c.loop-i.invariant.0 _ c.requires.2

pub put_mark-end-requires : goal.put_mark-end-requires
put_mark-end-requires c =
    let a = c.args in
    let more : 0 < a.layout.columns - c.loop-i.i = omega arith in
    mark-below a.body.now a.layout a.line c.loop-i.entry c.loop-i.at c.cell_on.result _ _ _ c.cell_on.ensures refl refl refl (a.layout.columns - c.loop-i.i) more c.loop-i.invariant.0 _ c.requires.2 c.put_answer-middle.ensures

pub loop-i-preserved : goal.loop-i-preserved
loop-i-preserved c =
    let a = c.args in
    let n = a.layout.columns - c.loop-i.i in
    let more : 0 < a.layout.columns - c.loop-i.i = omega arith in
    let one : a.layout.columns - (c.loop-i.i + 1) ≡ a.layout.columns - c.loop-i.i - 1 = omega arith in
    let whole = line-next a.body.now a.layout a.line c.loop-i.entry c.loop-i.at c.cell_on.result c.read8-tag.result c.in_record-entry.result c.in_row-at.result c.cell_on.ensures c.read8-tag.ensures.0 c.in_record-entry.ensures.0 c.in_row-at.ensures.0 n more in (
      rw one (less_left (less_left (rw whole at c.loop-i.invariant.0) c.put_answer-middle.ensures) c.put_mark-end.ensures),
      rw one (end_next _ _ _ _ _ _ _ _ more c.read8-tag.ensures.0 c.in_record-entry.ensures.0 c.in_row-at.ensures.0 ∙ c.loop-i.invariant.1),
      omega arith,
      omega arith,
    )

pub returns : goal.returns
returns c =
    let none : c.args.layout.columns - c.loop-i.i ≤ 0 = omega arith in (
      none_left (rw (line_over _ _ _ _ _ _ none) at c.loop-i.invariant.0),
      (end_over _ _ _ _ _ none ∙ c.loop-i.invariant.1, omega arith),
    )
