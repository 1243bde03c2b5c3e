-- `key_apart::first_parting` meets its contract: no position before p parts. Assumes nothing.
use Rattle.key_apart.specs.PayloadsApart.{parts_at}
use Rattle.key_apart.proofs.FirstLaws.{Looking}
use Rattle.key_apart.proofs.first_parting.Given as goal

abbrev pub invariant-loop-p : goal.invariant-loop-p
invariant-loop-p l = Looking (parts_at l.mask l.keys.t l.others.t) l.len l.p
