-- The promises of specs/Promises.antt, each under its name. T shows the bytes it is made of, and the counting bits hold the same bits as they do.
-- Assumes nothing.
use Rattle.std.proofs.Common.{sym}
use mathlib.Core.Logic.Iff
use Rattle.key.specs.Promises as promised
use Rattle.key.proofs.AndLaws.{and_twice}
use Rattle.key.proofs.KeyBits.{same_table, table_same, one_number, lanes_are_bits, all_that_counts, even_lanes_count, same_below_0x18}

pub OneTableExactlyWhenBitsAgree : promised.OneTableExactlyWhenBitsAgree
OneTableExactlyWhenBitsAgree key key' = (table_same key key', same_table key key')

pub OneTableExactlyWhenOneNumber : promised.OneTableExactlyWhenOneNumber
OneTableExactlyWhenOneNumber key key' = Iff.trans (OneTableExactlyWhenBitsAgree key key') (one_number key key')

pub EvenLanesTellTheirBits : promised.EvenLanesTellTheirBits
EvenLanesTellTheirBits key key' bound = lanes_are_bits bound key key'

pub LanesAsFarAs0x18ShowAllThatCounts : promised.LanesAsFarAs0x18ShowAllThatCounts
LanesAsFarAs0x18ShowAllThatCounts = all_that_counts

pub OtherBitsCanBeCleared : promised.OtherBitsCanBeCleared
OtherBitsCanBeCleared bits key = sym (and_twice key bits)

pub EvenLanesTellTheBits : promised.EvenLanesTellTheBits
EvenLanesTellTheBits = even_lanes_count

pub LanesBelow0x18HideBits40To47 : promised.LanesBelow0x18HideBits40To47
LanesBelow0x18HideBits40To47 = same_below_0x18
