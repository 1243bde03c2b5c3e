-- `header_tables::with_audio` meets its contract, block by block. Assumes nothing.
use Rattle.header_tables.specs.HeaderTables.{tables_in}
use Rattle.header_tables.proofs.with_audio.Goals as goal

pub returns : goal.returns
unfolding tables_in
returns c =
    rw (c.last_table.ensures, c.next_after-last.ensures.0, c.next_after-metadata.ensures.0, c.next_after-audio_end.ensures.0, c.next_after-video_end.ensures.0, c.requires.1, c.requires.0)
