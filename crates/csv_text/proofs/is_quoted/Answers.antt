-- `csv_text::is_quoted` meets its contract: any byte that asks for quotes is enough. Assumes nothing.
use Rattle.std.proofs.Common.{◌∙◌, rules}
use Rattle.std.proofs.lemmas.Iterator.{YieldsList-from_slice}
use Rattle.std.proofs.lemmas.Iterator.Search.{any_from_yields_List}
use Rattle.csv_text.specs.Written.{is_mark}
use Rattle.csv_text.proofs.QuoteLaws.{any_mark}
use Rattle.csv_text.proofs.is_quoted.Goals as goal

pub returns : goal.returns
returns c =
    any_from_yields_List is_mark _ _ _ c.any.ensures.ran (YieldsList-from_slice c.args.field.now cc) (λ x b q k. search rules)
    ∙ any_mark _
