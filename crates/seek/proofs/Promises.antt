-- The promises of specs/Promises.antt, each under its name: laws of halving, and of its answer. Assumes nothing.
use Rattle.seek.specs.Promises as promised
use Rattle.seek.proofs.HalvingLaws.{begun_parted, few_halvings}
use Rattle.seek.proofs.SeekLaws.{answered}

pub BegunAreTheFirst : promised.BegunAreTheFirst
BegunAreTheFirst = begun_parted

pub FewHalvingsSuffice : promised.FewHalvingsSuffice
FewHalvingsSuffice = few_halvings

pub EmptyPayloadsNeverAnswer : promised.EmptyPayloadsNeverAnswer
EmptyPayloadsNeverAnswer = answered
