-- `cell::text_at` meets its contract: an end that was found lies in the body, at or after the start. Assumes nothing.
use Rattle.std.proofs.Common.{sym, ◌∙◌, arith}
use Rattle.cell.proofs.Scan.{ended}
use Rattle.cell.proofs.text_at.Goals as goal

pub overflow_sub-result : goal.overflow_sub-result
overflow_sub-result c =
    omega (arith, ended c.args.body.now c.args.place c.in_ok-end.end (sym c.end_of.ensures ∙ c.in_ok-end.ensures.ok_part))
