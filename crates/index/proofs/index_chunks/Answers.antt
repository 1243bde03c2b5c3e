-- `index::index_chunks` meets its contract: what was counted into no list at all is what the index has. Assumes nothing.
use mathlib.Core.Path.{refl, sym, ◌∙◌}
use Rattle.std.proofs.lemmas.Result.{err_from_is_err_and}
use Rattle.index.proofs.IndexLaws.{filled, not_filled}
use Rattle.index.proofs.index_chunks.Goals as goal

pub returns : goal.returns
returns c =
    filled _ _ _ c.put_entries-entries.ensures.1 _ _ c.put_entries-entries.ensures.0 (sym c.in_ok-count.was ∙ c.counted_in.ensures) _ refl _ c.put_entries.ensures.1

pub returns-in_err-count : goal.returns-in_err-count
returns-in_err-count c =
    let p = err_from_is_err_and c.from_residual.result c.from_residual.ensures.1 in rw (p.1, p.2)
    (not_filled _ _ _ c.put_entries-entries.ensures.1 _ _ c.put_entries-entries.ensures.0 (sym c.in_err-count.was ∙ c.counted_in.ensures) _ refl)
