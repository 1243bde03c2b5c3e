-- Request 12: uploads that stopped early. "Given a container, and with audio chosen, return its longest beginning that extraction
-- accepts among those ending at a chunk start of the walk, a cut chunk's start included".
use Rattle.std.specs.Prelude.{ℕ, ◌-◌, List, [], ◌∷◌, Bool, true, false, cond, length, take, Option, Some, None, Result, Ok, Err}
use Rattle.salvage.specs.declared.Kept.{Kept}
use Rattle.std.specs.Borrow.{Bor}
use Rattle.refusal.specs.declared.Refusal.{Refusal}
use Rattle.refusal.specs.declared.Cause.TheVariants.{NoBeginning}
use Rattle.refusal.specs.Numbers.{number_of, beside_of}
use Rattle.reading.specs.declared.AudioChoice.TheVariants.{Chosen}
use Rattle.reading.specs.declared.Reading.{Reading}
use Rattle.reading.specs.Choices.{as_original, applied_to}
use Rattle.part.specs.Parts.{PartAt}
use Rattle.chunk.specs.declared.Chunk.{Chunk}
use Rattle.walk.specs.Walks.{Walk, Ending, clean, stopped, walk_from}
use Rattle.header.specs.declared.Header.{Header}
use Rattle.header.specs.Headers.{header_of}
use Rattle.film.specs.Films.{Film, film, refused, film_of}
use Rattle.salvage.specs.declared.SalvageReply.{SalvageReply}

-- "with audio chosen"; "read in the Rust's modes"
abbrev pub how : Reading
how = as_original Chosen

-- "Acceptance here means no walk refusal, with output sizes set aside."
abbrev pub is_film : Film → Bool
is_film (film header applied chunks) = true
is_film (refused refusal) = false

unfoldable pub accepted : List ℕ → Bool
accepted container = is_film (film_of container how)

-- "ending at a chunk start of the walk, a cut chunk's start included"
abbrev pub last_start : Ending → List ℕ
last_start clean = []
last_start (stopped refusal) = refusal.place ∷ []

unfoldable pub starts_of : List Chunk → Ending → List ℕ
starts_of [] ending = last_start ending
starts_of (chunk ∷ chunks) ending = chunk.start ∷ starts_of chunks ending

-- where a beginning ends, if there is one: that, or the other
abbrev pub or_else : Option ℕ → Option ℕ → Option ℕ
or_else (Some p) other = Some p
or_else None other = other

-- the last of some places that passes a test. Chunk starts rise, so the beginning that ends there is the "longest"
unfoldable pub last_of : (ℕ → Bool) → List ℕ → Option ℕ
last_of passes [] = None
last_of passes (p ∷ ps) = or_else (last_of passes ps) (cond (passes p) (Some p) None)

-- "Report bytes dropped and the number of the refusal that caused the cut"; "21 when no such beginning is accepted"
abbrev pub cut_as : List ℕ → Refusal → Option ℕ → Result Kept Refusal
cut_as container refusal (Some p) = Ok (record { kept = p; dropped = length container - p; cause = number_of refusal.cause })
cut_as container refusal None = Err (record { cause = NoBeginning; place = 0 })

-- "an accepted container comes back whole, with 0 dropped and 0 for the refusal"
abbrev pub ended_as : List ℕ → List Chunk → Ending → Result Kept Refusal
ended_as container chunks clean = Ok (record { kept = length container; dropped = 0; cause = 0 })
ended_as container chunks (stopped refusal) = cut_as container refusal (last_of (λ p. accepted (take p container)) (starts_of chunks (stopped refusal)))

-- the walk of a film
abbrev pub walk_of : List ℕ → Header → Walk
walk_of container header = walk_from container (applied_to header.audio how) header.start

unfoldable pub salvage_from : List ℕ → Header → Result Kept Refusal
salvage_from container header = ended_as container (walk_of container header).chunks (walk_of container header).ending

-- "Header damage is not mended." "Refusals: 11 first, then the header's own"
abbrev pub after_header : (Header → Result Kept Refusal) → Result Header Refusal → Result Kept Refusal
after_header k (Ok header) = k header
after_header k (Err refusal) = Err refusal

unfoldable pub salvage_of : List ℕ → Result Kept Refusal
salvage_of container = after_header (salvage_from container) (header_of container how)

-- how many bytes are kept: none where it is refused
abbrev pub kept_in : Result Kept Refusal → ℕ
kept_in (Ok found) = found.kept
kept_in (Err refusal) = 0

-- r is the beginning, as a part of the container
abbrev pub BeginningOf : Bor (List ℕ) → Bor (List ℕ) → Type 0
BeginningOf container r = PartAt container 0 (kept_in (salvage_of container.now)) r

-- the answer as C reads it: the paper's number, 0 where nothing is refused; the place; the type beside 8
abbrev pub salvage_reply : Result Kept Refusal → SalvageReply
salvage_reply (Ok found) = record { refused_at = 0; kept = found.kept; dropped = found.dropped; number = 0; unknown_type = 0; cause = found.cause }
salvage_reply (Err refusal) = record { refused_at = refusal.place; kept = 0; dropped = 0; number = number_of refusal.cause; unknown_type = (beside_of refusal.cause).unknown_type; cause = 0 }
