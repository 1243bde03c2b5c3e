-- The promise of specs/Promises.antt under its name: where the streams were the same, so would the groups be. Assumes nothing.
use Prim.Native.Nat.{ℕ}
use mathlib.Core.List.{List}
use Rattle.reading.specs.declared.AudioChoice.TheVariants.{Chosen}
use Rattle.reading.specs.Choices.{as_original}
use Rattle.tenants.specs.Tenants.{key_in}
use Rattle.statement.proofs.Promises.{OneGroupExactlyWhenStreamsAgree}
use Rattle.film_apart.proofs.Promises.{StreamsPartThere}
use Rattle.statement_reasons.specs.Promises as promised

pub GroupsPartAtTheByteNamed : promised.GroupsPartAtTheByteNamed
GroupsPartAtTheByteNamed container tenants lines lines' r tenant other line line' video audio video_after audio_after video_after' audio_after' contents contents' a m l q m' l' q' e e' differ =
    let means = StreamsPartThere container (as_original Chosen) (key_in tenant) (key_in other) video audio video_after audio_after video_after' audio_after' contents contents' e e' in (
      means,
      λ same.
          differ ((OneGroupExactlyWhenStreamsAgree container tenants lines lines' r tenant other line line' video audio video_after audio_after video_after' audio_after' contents contents' a m l q m' l' q' e e').1 (rw same at means)),
    )
