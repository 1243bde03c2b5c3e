-- The promise of specs/Promises.antt under its name: the film that the written bytes are has payloads by turns and then the ends, and none of them breaks a rule.
-- Assumes nothing.
use Rattle.std.specs.Prelude.{Ok}
use mathlib.Core.Path.{refl, sym, ap, ◌∙◌}
use lib.ListN.{length}
use Rattle.reading.specs.Choices.{applied_to}
use Rattle.unmasking.specs.Unmasking.{unmasking_of}
use Rattle.write_plan.specs.Films.{audio_in, film_bytes, bytes_of, header_blocks}
use Rattle.promises_write.proofs.StreamBackLaws.{items}
use Rattle.promises_write.proofs.FilmBackLaws.{chunks_from_lem, good, chunks_are}
use Rattle.promises_write.proofs.Promises.{taken, silent, written_is, film_read}
use Rattle.profile.specs.Streams.{first_of}
use Rattle.profile.specs.Profiles.{judged, heard, profile_of}
use Rattle.promises_profile.specs.Promises as promised
use Rattle.promises_profile.proofs.PlainLaws.{film_plain}

pub WrittenIsPlain : promised.WrittenIsPlain
unfolding profile_of
WrittenIsPlain name video audio packing out out' size mpeg other w =
    let spoken = audio_in packing audio in
    let container = film_bytes name video spoken packing in
    let start = length (bytes_of (header_blocks name packing)) in
    let accepted = taken name video audio packing out out' size mpeg other w heard refl in
    let quiet = silent name video audio packing out out' size mpeg other w heard refl in
    let applied = applied_to packing.audio heard in
    let by = unmasking_of packing.key packing.audio_codec in
    let from = chunks_from_lem name video spoken packing size accepted mpeg other quiet heard refl in
    let all = good name video spoken packing size accepted mpeg other quiet heard refl packing.audio refl in
    let verdict = film_plain by container applied packing.audio (items video spoken) all start from in
    let chunks = chunks_are name video spoken packing size accepted mpeg other quiet heard refl in
    rw (written_is name video audio packing out out' size mpeg other w heard refl, film_read name video audio packing out out' size mpeg other w heard refl)
    (ap Ok (ap (judged container (first_of packing.audio)) (sym chunks) ∙ verdict))
