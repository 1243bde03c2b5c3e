-- Request 13: the statement of a film. Its groups and shares stand in `tenants`, what a film shows of a key in `key_shown`.
use Rattle.std.specs.Prelude.{ℕ, ◌+◌, ◌≡◌, cond, List, length, ltb, Result, Err}
use Rattle.refusal.specs.declared.Refusal.{Refusal}
use Rattle.refusal.specs.declared.Cause.{Cause}
use Rattle.refusal.specs.declared.Cause.TheVariants.{TooLong, BadTenants}
use Rattle.reading.specs.declared.AudioChoice.TheVariants.{Chosen}
use Rattle.reading.specs.Choices.{as_original}
use Rattle.walk.specs.Walks.{video_size, audio_size}
use Rattle.film.specs.Films.{Film, film, refused, film_of}
use Rattle.list.specs.declared.ListReply.{ListReply}
use Rattle.list.specs.Listing.{counted_in, list_reply, filled_by}
use Rattle.key_shown.specs.KeyBits.{shown_bits}
use Rattle.tenants.specs.Tenants.{are_bad}
use Rattle.tenants.specs.Shares.{line_at, lines_from}

-- "audio chosen"
abbrev pub film_in : List ℕ → Film
film_in container = film_of container (as_original Chosen)

abbrev pub refused_by : Cause → Result ℕ Refusal
refused_by cause = Err (record { cause = cause; place = 0 })

-- "the walk's own, then 13 lent list too short", also with the tenants' count
abbrev pub stated_in : ℕ → ℕ → Film → Result ℕ Refusal
stated_in room count (film header applied chunks) = counted_in room count
stated_in room count (refused refusal) = Err refusal

-- "Refusals: 11, 22 no tenant, over 16, or a number twice, the walk's own, then 13"
abbrev pub stated_of : List ℕ → List (List ℕ) → ℕ → Result ℕ Refusal
stated_of container tenants room =
    cond (ltb 0x40000000 (length container)) (refused_by TooLong)
    (cond (are_bad tenants) (refused_by BadTenants)
    (stated_in room (length tenants) (film_in container)))

-- the lines of tenants, on a film that shows these bits of a key and of which a copy has so many bytes
abbrev pub lines_by : ℕ → ℕ → List (List ℕ) → List (List ℕ)
lines_by bits size tenants = lines_from (line_at bits size tenants) 0 (length tenants)

-- what is answered on tenants where the film is known
abbrev pub stated_by : List (List ℕ) → ℕ → Result ℕ Refusal
stated_by tenants room = cond (are_bad tenants) (refused_by BadTenants) (counted_in room (length tenants))

-- what is replied then, and the list after it
abbrev pub StatedBy : ℕ → ℕ → List (List ℕ) → List (List ℕ) → ListReply → List (List ℕ) → Type 0
StatedBy bits size tenants lines r lines' =
    (r ≡ list_reply (stated_by tenants (length lines))) × (lines' ≡ filled_by (stated_by tenants (length lines)) lines (lines_by bits size tenants))

-- "A copy's bytes (both streams)"
abbrev pub copy_of : Film → ℕ
copy_of (film header applied chunks) = video_size chunks + audio_size chunks
copy_of (refused refusal) = 0

-- a line for each tenant
abbrev pub lines_of : Film → List (List ℕ) → List (List ℕ)
lines_of f tenants = lines_by (shown_bits f) (copy_of f) tenants

-- what a statement replies, and the list after it: "list untouched" by a refusal, and past the count
abbrev pub Stated : List ℕ → List (List ℕ) → List (List ℕ) → ListReply → List (List ℕ) → Type 0
Stated container tenants lines r lines' =
    (r ≡ list_reply (stated_of container tenants (length lines)))
    × (lines' ≡ filled_by (stated_of container tenants (length lines)) lines (lines_of (film_in container) tenants))
