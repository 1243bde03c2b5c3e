-- The promises of specs/Promises.antt, each under its name. Assumes nothing.
use mathlib.Core.Path.{refl}
use Rattle.turns.proofs.FrontLaws.{same_self}
use Rattle.old_film.specs.Films.{old_bytes}
use Rattle.old_film.specs.Finding.{audios_of}
use Rattle.old_film.specs.Promises as promised
use Rattle.old_film.proofs.BackLaws.{parts_back, streams_back}

-- the parts are read back, so that what is rebuilt from them are the same bytes
pub FoundAgain : promised.FoundAgain
FoundAgain name video audio sound utf8 fits silent =
    let container = old_bytes name video (audios_of audio sound) in
    let read = streams_back name video audio sound fits silent in
    rw (parts_back name video audio sound fits silent, read.0, read.1) (rw (utf8, same_self container), (refl, refl, refl, refl, refl))
