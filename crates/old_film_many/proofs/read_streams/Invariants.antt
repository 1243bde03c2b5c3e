-- `old_film_many::read_streams` meets its contract: what is read so far, with what is read from here on, is all. Assumes nothing.
use Rattle.std.proofs.Common.{◌-◌, ◌*◌}
use Rattle.old_film_many.proofs.StreamLaws.{StreamsLeft}
use Rattle.old_film_many.proofs.read_streams.Given as goal

abbrev pub invariant-loop-round : goal.invariant-loop-round
invariant-loop-round l = StreamsLeft l.bytes l.place l.count l.turn l.video (l.round * 0x10000) (l.rounds - l.round)
