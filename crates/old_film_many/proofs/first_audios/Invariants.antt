-- `old_film_many::first_audios` meets its contract: the chunks so far, with those from here on, are all. Assumes nothing.
use Rattle.old_film_many.proofs.NextLaws.{FirstLeft}
use Rattle.old_film_many.proofs.first_audios.Given as goal

abbrev pub invariant-loop-number : goal.invariant-loop-number
invariant-loop-number l = FirstLeft l.bytes l.place l.count l.at l.number
