-- The promises of specs/Promises.antt, each under its name. Assumes nothing.
use Rattle.std.specs.Prelude.{Ok, Err}
use mathlib.Core.Path.{sym, ap, ◌∙◌}
use mathlib.Core.List.{List}
use Prim.Native.Nat.{ℕ}
use lib.ListN.{take, drop}
use Rattle.reading.specs.Choices.{applied_to}
use Rattle.chunk.proofs.Promises.{WindowsGiveTheStep}
use Rattle.walk.specs.Walks.{clean}
use Rattle.film.specs.Films.{walked_as, film_from, after_header, film_of}
use Rattle.unmasking.specs.Unmasking.{unmasking_of, clear_video, clear_audio}
use Rattle.extract.specs.Streams.{video_part, audio_part, video_piece, audio_piece}
use Rattle.extract.specs.Extraction.{video_of, audio_of}
use Rattle.pieces.specs.Pieces.{clear_of}
use Rattle.pieces.specs.Promises as promised
use Rattle.pieces.proofs.PieceLaws.{whole, any_beginning, known, not_too_long, film_step_lem, walk_learnt, same_joined, payload_there, video_share, audio_share}

pub BeginningsNeverMislead : promised.BeginningsNeverMislead
BeginningsNeverMislead container n how = any_beginning container how n

pub TheWholeIsEnough : promised.TheWholeIsEnough
TheWholeIsEnough container how = whole container how

pub StepsOfAFilm : promised.StepsOfAFilm
StepsOfAFilm container reading c k few h = film_step_lem container reading few (take k (drop c container)) c ∙ WindowsGiveTheStep container reading c k h

pub FilmByPieces : promised.FilmByPieces
unfolding film_of film_from
FilmByPieces container n how window size header chunks ending windows e learnt =
    let read = known container how n (Ok header) e in
    let applied = applied_to header.audio how in
    ap (after_header (film_from container how)) read
    ∙ ap (walked_as header applied) (walk_learnt container applied (not_too_long container how header read) window size windows header.start chunks ending learnt)

pub RefusedByABeginning : promised.RefusedByABeginning
unfolding film_of
RefusedByABeginning container n how refusal e = ap (after_header (film_from container how)) (known container how n (Err refusal) e)

pub StreamsByPieces : promised.StreamsByPieces
StreamsByPieces container n how key window size payload header chunks windows payloads e learnt =
    let read = known container how n (Ok header) e in
    let codec = header.audio_codec in
    let applied = applied_to header.audio how in
    let few = not_too_long container how header read in
    let by = unmasking_of key codec in
    let film = FilmByPieces container n how window size header chunks clean windows e learnt in
    let same = payload_there container applied few payload payloads in
    let pieces = same_joined container applied few window size windows in (
      pieces (λ chunk. video_part chunk.kind (clear_of key codec chunk (payload chunk))) (video_piece container by)
          (λ c chunk f. video_share key codec chunk (payload chunk) ∙ ap (λ (bytes : List ℕ). clear_video by chunk.data_type (video_part chunk.kind bytes)) (same c chunk f)) header.start chunks clean learnt
          ∙ sym (ap (video_of container key) film),
      pieces (λ chunk. audio_part chunk.kind (clear_of key codec chunk (payload chunk))) (audio_piece container by)
          (λ c chunk f. audio_share key codec chunk (payload chunk) ∙ ap (λ (bytes : List ℕ). clear_audio by chunk.data_type (audio_part chunk.kind bytes)) (same c chunk f)) header.start chunks clean learnt
          ∙ sym (ap (audio_of container key) film),
    )
