-- What a statement promises of its lines. Each is proved under the same name in proofs/Promises.antt.
use Rattle.std.specs.Prelude.{ℕ, ◌+◌, ◌≤◌, ◌<◌, ◌≡◌, ◌↔◌, cond, length, get_or, take, eqb, Option, Some, Result, Ok, Err}
use mathlib.Core.List.{List, [], ◌∷◌, Memᴰ, Permᴰ}
use Rattle.laws.specs.Lists.{at}
use Rattle.refusal.specs.declared.Refusal.{Refusal}
use Rattle.refusal.specs.Numbers.{number_of}
use Rattle.reading.specs.declared.AudioChoice.TheVariants.{Chosen}
use Rattle.reading.specs.Choices.{as_original}
use Rattle.extract.specs.declared.Contents.{Contents}
use Rattle.extract.specs.Extraction.{Extraction}
use Rattle.list.specs.declared.ListReply.{ListReply}
use Rattle.list.specs.Promises.{SamePast}
use Rattle.tenants.specs.Tenants.{number_in, key_in}
use Rattle.tenants.specs.Promises.{OneToSixteen}
use Rattle.statement.specs.Statements.{Stated}

-- ---- what stands in a line, and which lines were given: as many as the reply says

abbrev pub tenant_in : List ℕ → ℕ
tenant_in line = at line 0

abbrev pub group_in : List ℕ → ℕ
group_in line = at line 1

abbrev pub share_in : List ℕ → ℕ
share_in line = at line 2

abbrev pub lines_given : ListReply → List (List ℕ) → List (List ℕ)
lines_given r lines = take r.count lines

-- a statement that is not refused, by its reply and the list after it
pub record Answered (container : List ℕ) (tenants lines : List (List ℕ)) (r : ListReply) (lines' : List (List ℕ)) : Type 0 where
  pub stated : Stated container tenants lines r lines'
  pub accepted : r.number ≡ 0

-- a film's streams under a key, audio chosen, put into two outputs
abbrev pub Unpacked : List ℕ → Option ℕ → List ℕ → List ℕ → Contents → List ℕ → List ℕ → Type 0
Unpacked container key video audio contents = Extraction container (as_original Chosen) key video audio (Ok contents)

-- ---- the promises

-- "Two tenants are in one group exactly when their extracted streams, audio chosen, agree byte for byte": their lines name one group exactly when
-- extraction under their keys, into the same outputs, leaves the same two streams
abbrev pub OneGroupExactlyWhenStreamsAgree : Type 0
OneGroupExactlyWhenStreamsAgree =
    (container : List ℕ) (tenants lines lines' : List (List ℕ)) (r : ListReply) (tenant other line line' : List ℕ)
    (video audio video_after audio_after video_after' audio_after' : List ℕ) (contents contents' : Contents)
    → Answered container tenants lines r lines'
    → Memᴰ tenant tenants → Memᴰ line (lines_given r lines') → tenant_in line ≡ number_in tenant
    → Memᴰ other tenants → Memᴰ line' (lines_given r lines') → tenant_in line' ≡ number_in other
    → Unpacked container (Some (key_in tenant)) video audio contents video_after audio_after
    → Unpacked container (Some (key_in other)) video audio contents' video_after' audio_after'
    → (group_in line ≡ group_in line') ↔ ((video_after ≡ video_after') × (audio_after ≡ audio_after'))

-- every tenant has a line, and there are as many lines as tenants
abbrev pub EveryTenantHasALine : Type 0
EveryTenantHasALine =
    (container : List ℕ) (tenants lines lines' : List (List ℕ)) (r : ListReply) → Answered container tenants lines r lines'
    → (length (lines_given r lines') ≡ length tenants)
    × ((tenant : List ℕ) → Memᴰ tenant tenants → (line : List ℕ) × Memᴰ line (lines_given r lines') × (tenant_in line ≡ number_in tenant))

-- "by rising tenant"
abbrev pub LinesRise : Type 0
LinesRise =
    (container : List ℕ) (tenants lines lines' : List (List ℕ)) (r : ListReply) → Answered container tenants lines r lines'
    → (i j : ℕ) → i < j → j < length tenants → tenant_in (get_or (lines_given r lines') i []) < tenant_in (get_or (lines_given r lines') j [])

-- what the lines of a group bear together
unfoldable pub borne_by : ℕ → List (List ℕ) → ℕ
borne_by group [] = 0
borne_by group (line ∷ lines) = cond (eqb (group_in line) group) (share_in line) 0 + borne_by group lines

-- "Shares in a group sum to the size of its copy": to both sizes that extraction tells, under whatever key or none
abbrev pub SharesSumToTheCopy : Type 0
SharesSumToTheCopy =
    (container : List ℕ) (tenants lines lines' : List (List ℕ)) (r : ListReply) (line : List ℕ)
    (key : Option ℕ) (video audio video_after audio_after : List ℕ) (contents : Contents)
    → Answered container tenants lines r lines' → Memᴰ line (lines_given r lines')
    → Unpacked container key video audio contents video_after audio_after
    → borne_by (group_in line) (lines_given r lines') ≡ contents.video_size + contents.audio_size

-- "differ by at most one"
abbrev pub SharesDifferByOneAtMost : Type 0
SharesDifferByOneAtMost =
    (container : List ℕ) (tenants lines lines' : List (List ℕ)) (r : ListReply) (line line' : List ℕ) → Answered container tenants lines r lines'
    → Memᴰ line (lines_given r lines') → Memᴰ line' (lines_given r lines') → group_in line ≡ group_in line' → share_in line ≤ share_in line' + 1

-- "a remainder goes one byte each to the lowest tenant numbers": of two in a group, the lower number bears no less
abbrev pub LargerSharesToTheLowest : Type 0
LargerSharesToTheLowest =
    (container : List ℕ) (tenants lines lines' : List (List ℕ)) (r : ListReply) (line line' : List ℕ) → Answered container tenants lines r lines'
    → Memᴰ line (lines_given r lines') → Memᴰ line' (lines_given r lines') → group_in line ≡ group_in line' → tenant_in line < tenant_in line'
    → share_in line' ≤ share_in line

-- "do not depend on the order in which tenants are listed": in any order, the same reply and the same list
abbrev pub OrderMovesNoLine : Type 0
OrderMovesNoLine =
    (container : List ℕ) (tenants tenants' lines lines_after lines_after' : List (List ℕ)) (r r' : ListReply) → Permᴰ tenants tenants'
    → Stated container tenants lines r lines_after → Stated container tenants' lines r' lines_after' → (r ≡ r') × (lines_after ≡ lines_after')

-- "list untouched"
abbrev pub RefusalsLeaveTheLines : Type 0
RefusalsLeaveTheLines =
    (container : List ℕ) (tenants lines lines' : List (List ℕ)) (r : ListReply) → Stated container tenants lines r lines' → (r.number ≡ 0 → ⊥) → lines' ≡ lines

-- "lines past the count": whatever is replied, the list is as long as before, and from the count on it is the same
abbrev pub LinesPastTheCountStay : Type 0
LinesPastTheCountStay =
    (container : List ℕ) (tenants lines lines' : List (List ℕ)) (r : ListReply) → Stated container tenants lines r lines' → SamePast r.count lines lines'

-- "lowest tenant of its group": the group that a line names is the number of a tenant of that group, and no tenant of the group has a lower one
abbrev pub GroupIsItsLowest : Type 0
GroupIsItsLowest =
    (container : List ℕ) (tenants lines lines' : List (List ℕ)) (r : ListReply) (line : List ℕ) → Answered container tenants lines r lines' → Memᴰ line (lines_given r lines')
    → ((line' : List ℕ) → Memᴰ line' (lines_given r lines') → group_in line' ≡ group_in line → group_in line ≤ tenant_in line')
    × ((lowest : List ℕ) × Memᴰ lowest (lines_given r lines') × (group_in lowest ≡ group_in line) × (tenant_in lowest ≡ group_in line))

-- "up to 16 tenants, each with a tenant number": what is answered is a statement for 1 to 16 tenants, whose numbers are all different
abbrev pub AnsweredAreOneToSixteen : Type 0
AnsweredAreOneToSixteen = (container : List ℕ) (tenants lines lines' : List (List ℕ)) (r : ListReply) → Answered container tenants lines r lines' → OneToSixteen tenants

-- a film that has a statement can be unpacked under every key and under none, into outputs as long as the container: so there are two extractions to compare
abbrev pub EveryKeyUnpacks : Type 0
EveryKeyUnpacks =
    (container : List ℕ) (tenants lines lines' : List (List ℕ)) (r : ListReply) (key : Option ℕ) (video audio : List ℕ) → Answered container tenants lines r lines'
    → length container ≤ length video → length container ≤ length audio
    → (contents : Contents) × (video_after : List ℕ) × (audio_after : List ℕ) × Unpacked container key video audio contents video_after audio_after

-- what extraction answers, audio chosen, into outputs as long as the container: a film, or the walk's own refusal
pub record Walked (container : List ℕ) (answer : Result Contents Refusal) : Type 0 where
  pub key : Option ℕ
  pub video : List ℕ
  pub audio : List ℕ
  pub video_after : List ℕ
  pub audio_after : List ℕ
  pub video_room : length container ≤ length video
  pub audio_room : length container ≤ length audio
  pub answers : Extraction container (as_original Chosen) key video audio answer video_after audio_after

-- a refusal by a number, at a place
abbrev pub RefusedBy : ListReply → ℕ → ℕ → Type 0
RefusedBy r number place = (r.number ≡ number) × (r.refused_at ≡ place)

-- "Refusals: 11, 22 no tenant, over 16, or a number twice, the walk's own, then 13 lent list too short": each only where none before it is met
pub record InOrder (container : List ℕ) (tenants lines : List (List ℕ)) (r : ListReply) : Type 0 where
  pub too_long : 0x40000000 < length container → RefusedBy r 11 0
  pub bad_tenants : length container ≤ 0x40000000 → (OneToSixteen tenants → ⊥) → RefusedBy r 22 0
  pub walks_own : length container ≤ 0x40000000 → OneToSixteen tenants → (refusal : Refusal) → Walked container (Err refusal) → RefusedBy r (number_of refusal.cause) refusal.place
  pub short_list : length container ≤ 0x40000000 → OneToSixteen tenants → (contents : Contents) → Walked container (Ok contents) → length lines < length tenants
      → RefusedBy r 13 0 × (r.count ≡ length tenants)
  pub answered : length container ≤ 0x40000000 → OneToSixteen tenants → (contents : Contents) → Walked container (Ok contents) → length tenants ≤ length lines
      → RefusedBy r 0 0 × (r.count ≡ length tenants)

-- The order of the refusals, on what extraction answers.
abbrev pub RefusalsInOrder : Type 0
RefusalsInOrder = (container : List ℕ) (tenants lines lines' : List (List ℕ)) (r : ListReply) → Stated container tenants lines r lines' → InOrder container tenants lines r
