-- What tables promise. Each is proved under the same name in proofs/Promises.antt.
use Rattle.std.specs.Prelude.{ℕ, zero, suc, ◌+◌, ◌/◌, ◌≤◌, ◌≡◌, List, Bool, true, false, ◌||◌, ◌&&◌, length, drop, eqb, Result, Ok, Err}
use Rattle.refusal.specs.declared.Cause.{Cause}
use Rattle.refusal.specs.declared.Cause.TheVariants as cause
use Rattle.refusal.specs.declared.Refusal.{Refusal}
use Rattle.laws.specs.Lists.{at}
use Rattle.word.specs.Numbers.{be32}
use Rattle.reading.specs.declared.TableMode.{TableMode}
use Rattle.reading.specs.declared.TableMode.TheVariants.{Original, ZeroColumns}
use Rattle.layout.specs.declared.Layout.{Layout}
use Rattle.layout.specs.Layouts.{layout_in, body_of}
use Rattle.column.specs.Storages.{in_record}
use Rattle.table.specs.Tables.{table_at}

-- An accepted table has at most 64 columns and 256 rows, and all of it lies within the slice: 32 bytes of header, and the size less 24.
abbrev pub AcceptedLiesWithin : Type 0
AcceptedLiesWithin =
    (bytes : List ℕ) (place : ℕ) (m : TableMode) (l : Layout) → table_at bytes place m ≡ Ok l
    → (l.columns ≤ 64) × (l.rows ≤ 256) × (be32 (drop place bytes) 4 ≡ l.size + 24) × (place + (32 + l.size) ≤ length bytes)

-- ---- both modes

-- high nibble 3, 5 or 7
abbrev pub known : ℕ → Bool
known tag = eqb (tag / 16) 3 || (eqb (tag / 16) 5 || eqb (tag / 16) 7)

-- n columns whose records stand from body byte p on
unfoldable pub known_from : List ℕ → ℕ → ℕ → Bool
known_from b zero p = true
known_from b (suc n) p = known (at b p) && known_from b n (p + in_record Original (at b p))

-- all columns of the table that t begins with; one that is refused before them has none
abbrev pub known_in : List ℕ → Result Layout Cause → Bool
known_in t (Ok l) = known_from (body_of t l) l.columns 0
known_in t (Err why) = true

-- a layout, and an answer, with the name of a mode in place of another
abbrev pub relaid : TableMode → Layout → Layout
relaid m l = record { size = l.size; columns = l.columns; rows = l.rows; start = l.start; strings = l.strings; blobs = l.blobs; mode = m }

abbrev pub in_mode : TableMode → Result Layout Refusal → Result Layout Refusal
in_mode m (Ok l) = Ok (relaid m l)
in_mode m (Err refusal) = Err refusal

-- Where no column has nibble 1 and all kinds are known, both modes agree: on the layout, or on the refusal and its place.
abbrev pub ModesAgree : Type 0
ModesAgree =
    (bytes : List ℕ) (place : ℕ) → known_in (drop place bytes) (layout_in (drop place bytes) Original) ≡ true
    → table_at bytes place ZeroColumns ≡ in_mode ZeroColumns (table_at bytes place Original)

-- ---- refusals

-- the causes that a table can have: 1, 3, 8, 9, 10 and 18
abbrev pub is_of_atable : Cause → Bool
is_of_atable cause.RanOut = true
is_of_atable cause.NoFilm = false
is_of_atable cause.NoTable = true
is_of_atable cause.NoVideo = false
is_of_atable cause.NoAudio = false
is_of_atable cause.NoHeaderEnd = false
is_of_atable cause.NoMetadataEnd = false
is_of_atable (cause.UnknownType kind) = true
is_of_atable cause.TooSmall = true
is_of_atable cause.TooMany = true
is_of_atable cause.TooLong = false
is_of_atable (cause.ShortOutput video audio) = false
is_of_atable (cause.ShortList count) = false
is_of_atable cause.MarkedPayload = false
is_of_atable (cause.ShortRoom size) = false
is_of_atable cause.ShortHeader = false
is_of_atable cause.UnknownStorage = true
is_of_atable cause.Foreign = false
is_of_atable cause.ManyAudios = false
is_of_atable cause.NoBeginning = false
is_of_atable cause.BadTenants = false
is_of_atable cause.CodecAlone = false

-- A table is refused by 1, 3, 8, 9, 10 or 18, and by no other number, in both modes; and at its own start.
abbrev pub TablesRefuseByThese : Type 0
TablesRefuseByThese =
    (bytes : List ℕ) (place : ℕ) (m : TableMode) (refusal : Refusal) → table_at bytes place m ≡ Err refusal → (is_of_atable refusal.cause ≡ true) × (refusal.place ≡ place)
