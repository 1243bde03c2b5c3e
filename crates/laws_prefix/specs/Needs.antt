-- What a chunk needs of a container, and a table. Ours, beyond the rules: it says of each beginning whether the chunk is found in it, and whether more bytes can change a refusal.
use Rattle.std.specs.Prelude.{ℕ, ◌+◌, max, ◌≡◌, List, Bool, true, false, drop, Result, Ok, Err}
use Rattle.refusal.specs.declared.Cause.{Cause}
use Rattle.layout.specs.declared.Layout.{Layout}
use Rattle.refusal.specs.declared.Refusal.{Refusal}
use Rattle.refusal.specs.Numbers.{number_of}
use Rattle.reading.specs.declared.TableMode.{TableMode}
use Rattle.layout.specs.Layouts.{layout_in}
use Rattle.chunk.specs.declared.Chunk.{Chunk}

-- up to where it has to be there: the 45 bytes that every chunk has, and its payload. One that is skipped has a payload of length 0 at c + 0x20
abbrev pub need_of : Chunk → ℕ
need_of chunk = max (chunk.start + 45) (chunk.payload + chunk.len)

abbrev pub is_laid : Result Layout Cause → Bool
is_laid (Ok layout) = true
is_laid (Err why) = false

-- the block at p has a table, and all bytes of it are there: what is refused of such a table is refused with more bytes behind it too
abbrev pub laid_at : List ℕ → TableMode → ℕ → Bool
laid_at s m p = is_laid (layout_in (drop (p + 0x20) s) m)

-- a refusal of s that more bytes can change: 1, and not inside a table that is there
abbrev pub Open : List ℕ → TableMode → Refusal → Type 0
Open s m refusal = (number_of refusal.cause ≡ 1) × (laid_at s m refusal.place ≡ false)
