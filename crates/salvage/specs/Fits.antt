-- Which cut holds what the chunks before it need: how the longest beginning is found in one walk. It serves the contracts of private
-- functions; the rules do not name it.
use Rattle.std.specs.Prelude.{ℕ, max, List, [], ◌∷◌, cond, leb, Option, Some, None, Result, Ok, Err}
use Rattle.header.specs.declared.Header.{Header}
use Rattle.refusal.specs.declared.Refusal.{Refusal}
use Rattle.chunk.specs.declared.Chunk.{Chunk}
use Rattle.walk.specs.Walks.{Walk, Ending, clean, stopped}
use Rattle.laws_prefix.specs.Needs.{need_of}
use Rattle.salvage.specs.declared.Cut.{Cut}

-- p, if it holds what is needed, or the best one before
abbrev pub fitted : ℕ → ℕ → ℕ → ℕ
fitted need best p = cond (leb need p) p best

abbrev pub fit_at : ℕ → ℕ → Ending → Option Cut
fit_at need best clean = None
fit_at need best (stopped refusal) = Some (record { place = fitted need best refusal.place; refusal = refusal })

-- the last chunk start that holds what the chunks before it need. Those before the first of these need so much, and `best` is the last start found among them
unfoldable pub fit_from : ℕ → ℕ → List Chunk → Ending → Option Cut
fit_from need best [] ending = fit_at need best ending
fit_from need best (chunk ∷ chunks) ending = fit_from (max need (need_of chunk)) (fitted need best chunk.start) chunks ending

abbrev pub fit_in : ℕ → ℕ → Walk → Option Cut
fit_in need best walk = fit_from need best walk.chunks walk.ending

-- a cut, if the header can be read in what it leaves
abbrev pub if_read : ℕ → Result Header Refusal → Option ℕ
if_read p (Ok header) = Some p
if_read p (Err refusal) = None
