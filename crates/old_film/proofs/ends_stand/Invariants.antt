-- `old_film::ends_stand` meets its contract: one end after the other. Assumes nothing.
use Rattle.std.proofs.Common.{◌≡◌, ◌-◌}
use Rattle.old_film.specs.Finding.{closes_with}
use Rattle.old_film.proofs.ends_stand.Given as goal

abbrev pub invariant-loop-audio : goal.invariant-loop-audio
invariant-loop-audio l = closes_with l.container l.at (l.count - l._audio) ≡ closes_with l.container l.place l.count
