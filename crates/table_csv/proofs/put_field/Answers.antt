-- `csv::put_field` meets its contract: a field in quotes is put in three pieces, another as it is. Assumes nothing.
use mathlib.Core.Path.{sym, ap, ◌∙◌}
use mathlib.Core.List.{[], ◌∷◌}
use native.Mathlib.Omega.{arith}
use lib.ListN.{length, length-append}
use Rattle.laws.proofs.PutLaws.{put_as, put_then}
use Rattle.csv_text.specs.Written.{quote, doubled}
use Rattle.csv_text.proofs.LengthLaws.{plain_field, quoted_field}
use Rattle.table_csv.proofs.put_field.Goals as goal

pub put-at-requires : goal.put-at-requires
put-at-requires c =
    let e = quoted_field _ (sym c.is_quoted.ensures ∙ c.if-is_quoted.true) in
    omega (arith, ap length e)

pub put_doubled-at-requires : goal.put_doubled-at-requires
put_doubled-at-requires c =
    let e = quoted_field _ (sym c.is_quoted.ensures ∙ c.if-is_quoted.true) in
    omega (arith, c.put-at.ensures.ends, ap length e, length-append (doubled c.args.field.now) (quote ∷ []))

pub put-requires : goal.put-requires
put-requires c =
    let e = quoted_field _ (sym c.is_quoted.ensures ∙ c.if-is_quoted.true) in
    omega (arith, c.put_doubled-at.ensures.ends, c.put-at.ensures.ends, ap length e, length-append (doubled c.args.field.now) (quote ∷ []))

pub returns-then-is_quoted : goal.returns-then-is_quoted
returns-then-is_quoted c =
    let e = quoted_field _ (sym c.is_quoted.ensures ∙ c.if-is_quoted.true) in
    put_as (put_then c.put-at.ensures (put_then c.put_doubled-at.ensures c.put.ensures)) (sym e)

pub put-requires-2 : goal.put-requires-2
put-requires-2 c =
    omega (arith, ap length (plain_field _ (sym c.is_quoted.ensures ∙ c.if-is_quoted.false)))

pub returns : goal.returns
returns c =
    put_as c.put-2.ensures (sym (plain_field _ (sym c.is_quoted.ensures ∙ c.if-is_quoted.false)))
