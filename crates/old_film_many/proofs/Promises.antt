-- The promises of specs/Promises.antt, each under its name. Assumes nothing.
use Rattle.old_film_many.specs.Promises as promised
use Rattle.old_film_many.proofs.BackLaws.{told}

-- the parts are read back, so that what is rebuilt from them are the same bytes
pub SeveralAreTold : promised.SeveralAreTold
SeveralAreTold name video audios utf8 fits several few = told name video audios fits few utf8 several
