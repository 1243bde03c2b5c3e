-- `column::read_column` meets its contract: each return is a case of `column_at`. Assumes nothing.
use Rattle.std.proofs.Common.{◌≡◌, ℕ, Option, Result, Err, sym, ap, ◌∙◌, arith}
use Rattle.std.specs.Option.{ok_or}
use Rattle.std.proofs.lemmas.Result.{err_from_is_err_and}
use Rattle.refusal.specs.declared.Cause.{Cause}
use Rattle.refusal.specs.declared.Cause.TheVariants.{RanOut}
use Rattle.column.proofs.ColumnLaws.{cut, unnamed, with_name}
use Rattle.column.proofs.read_column.Goals as goal

pub returns-then-left_from-lt-RECORD : goal.returns-then-left_from-lt-RECORD
returns-then-left_from-lt-RECORD c =
    let a = c.args in
    cut a.body.now a.at a.layout (omega arith)

pub named_column-requires : goal.named_column-requires
named_column-requires c = omega arith

pub returns : goal.returns
returns c =
    let a = c.args in
    c.named_column.ensures
    ∙ with_name a.body.now a.at a.layout c.read32.result (omega arith) c.read32.ensures.0
    c.in_ok-ok_or.field-0 (sym c.end_of.ensures ∙ c.in_ok-ok_or.ensures.ok_part)

pub returns-in_err-ok_or : goal.returns-in_err-ok_or
returns-in_err-ok_or c =
    let a = c.args in
    let p = err_from_is_err_and c.from_residual.result c.from_residual.ensures.1 in
    let h = c.in_err-ok_or.ensures in
    let e : ◌≡◌ {A = Result ℕ Cause} (Err c.in_err-ok_or.field-0.0) (Err RanOut) = h.value ∙ ap (λ (end : Option ℕ). ok_or end RanOut) h.ok_part in
    let same : c.in_err-ok_or.field-0.0 ≡ RanOut = cc in
    rw (p.1, p.2, same)
    (unnamed a.body.now a.at a.layout c.read32.result (omega arith) c.read32.ensures.0 (sym c.end_of.ensures ∙ h.ok_part))
