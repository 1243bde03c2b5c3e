-- Request 13 on a film that is read piece by piece: the answers of `statement`, from what was gathered.
use Rattle.std.specs.Prelude.{ℕ, ◌≡◌, cond, List, [], length, ltb, Result, Ok, Err}
use Rattle.pieces_statement.specs.declared.Tally.{Tally}
use Rattle.refusal.specs.declared.Refusal.{Refusal}
use Rattle.refusal.specs.declared.Cause.TheVariants.{TooLong, BadTenants}
use Rattle.list.specs.declared.ListReply.{ListReply}
use Rattle.list.specs.Listing.{counted_in, list_reply, filled_by}
use Rattle.tenants.specs.Tenants.{are_bad}
use Rattle.statement.specs.Statements.{refused_by, lines_by}
use Rattle.pieces_statement.specs.Tallies.{added}

-- "the walk's own, then 13 lent list too short", also with the tenants' count
abbrev pub gathered_in : ℕ → ℕ → Result Tally Refusal → Result ℕ Refusal
gathered_in room count (Ok tally) = counted_in room count
gathered_in room count (Err refusal) = Err refusal

-- "Refusals: 11, 22 no tenant, over 16, or a number twice, the walk's own, then 13"
abbrev pub stated_as : ℕ → Result Tally Refusal → List (List ℕ) → ℕ → Result ℕ Refusal
stated_as total gathered tenants room =
    cond (ltb 0x40000000 total) (refused_by TooLong)
    (cond (are_bad tenants) (refused_by BadTenants)
    (gathered_in room (length tenants) gathered))

-- a line for each tenant; none where the film is refused
abbrev pub lines_as : Result Tally Refusal → List (List ℕ) → List (List ℕ)
lines_as (Ok tally) tenants = lines_by tally.bits (added tally.video tally.audio) tenants
lines_as (Err refusal) tenants = []

-- what is replied, and the list after it
abbrev pub StatedAs : ℕ → Result Tally Refusal → List (List ℕ) → List (List ℕ) → ListReply → List (List ℕ) → Type 0
StatedAs total gathered tenants lines r lines' =
    (r ≡ list_reply (stated_as total gathered tenants (length lines)))
    × (lines' ≡ filled_by (stated_as total gathered tenants (length lines)) lines (lines_as gathered tenants))
