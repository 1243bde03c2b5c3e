-- What can be relied on about the byte that a statement names. It is proved under the same name in proofs/Promises.antt.
use Rattle.std.specs.Prelude.{ℕ, ◌≡◌, Some, None, Ok}
use mathlib.Core.List.{List, Memᴰ}
use Rattle.extract.specs.declared.Contents.{Contents}
use Rattle.list.specs.declared.ListReply.{ListReply}
use Rattle.tenants.specs.Tenants.{number_in, key_in}
use Rattle.statement.specs.Statements.{film_in}
use Rattle.statement.specs.Promises.{tenant_in, group_in, lines_given, Answered, Unpacked}
use Rattle.film_apart.specs.FilmsApart.{film_apart}
use Rattle.film_apart.specs.Promises.{Means}

-- Of two tenants in different groups a byte is named, and it is the first at which what extraction leaves under their keys, into the same outputs, differs.
abbrev pub GroupsPartAtTheByteNamed : Type 0
GroupsPartAtTheByteNamed =
    (container : List ℕ) (tenants lines lines' : List (List ℕ)) (r : ListReply) (tenant other line line' : List ℕ)
    (video audio video_after audio_after video_after' audio_after' : List ℕ) (contents contents' : Contents)
    → Answered container tenants lines r lines'
    → Memᴰ tenant tenants → Memᴰ line (lines_given r lines') → tenant_in line ≡ number_in tenant
    → Memᴰ other tenants → Memᴰ line' (lines_given r lines') → tenant_in line' ≡ number_in other
    → Unpacked container (Some (key_in tenant)) video audio contents video_after audio_after
    → Unpacked container (Some (key_in other)) video audio contents' video_after' audio_after'
    → (group_in line ≡ group_in line' → ⊥)
    → Means (film_apart (key_in tenant) (key_in other) (film_in container)) video_after audio_after video_after' audio_after'
    × (film_apart (key_in tenant) (key_in other) (film_in container) ≡ Ok None → ⊥)
