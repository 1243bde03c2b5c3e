-- `header_tables::tables_in` meets its contract, with audio and without. Assumes nothing.
use mathlib.Core.Path.{ap, ◌∙◌}
use native.Mathlib.Omega.{arith}
use Rattle.header_tables.specs.HeaderTables.{next_after, tables_in}
use Rattle.header_tables.proofs.tables_in.Goals as goal

pub with_audio-requires : goal.with_audio-requires
with_audio-requires c =
    (c.next_after-video.ensures.0, c.next_after-end.ensures.0 ∙ ap (next_after _) c.next_after-video.ensures.0, omega (arith, c.next_after-video.ensures.1), omega (arith, c.next_after-video.ensures.1, c.next_after-end.ensures.1))

pub returns-then-audio : goal.returns-then-audio
returns-then-audio c = rw c.if-audio.true c.with_audio.ensures

pub returns : goal.returns
unfolding tables_in
returns c = rw (c.if-audio.false, c.next_after.ensures.0, c.next_after-end.ensures.0, c.next_after-video.ensures.0)
