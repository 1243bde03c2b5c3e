-- The checked examples hold: each definition computes to what the rules say. Assumes nothing.
use mathlib.Core.Path.{refl}
use Rattle.laws.specs.Lists.{tab}
use Rattle.key.specs.KeyTable.{table_by, table_t, table_v, table_a, keys_of}
use Rattle.mask.specs.Video.{clear, with_tail_at, with_tail, head_mask, xored_head_at, xored_head, unmasked_video}
use Rattle.mask.specs.Audio.{audio_at, masked_audio}
use Rattle.cell.specs.Cells.{value_at, cell_at}
use Rattle.promises_examples.specs.Table.{examples, AllHold}

pub examples_hold : AllHold examples
unfolding examples AllHold tab table_by table_t table_v table_a keys_of clear with_tail_at with_tail head_mask xored_head_at xored_head unmasked_video audio_at masked_audio value_at cell_at
examples_hold = (refl, (refl, (refl, (refl, (refl, (refl, (refl, (refl, (refl, (refl, (refl, tt)))))))))))
