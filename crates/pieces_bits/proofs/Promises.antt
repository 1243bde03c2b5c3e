-- The promise of specs/Promises.antt under its name: the film is the one that was learnt. Assumes nothing.
use mathlib.Core.Path.{sym, ap, ◌∙◌}
use Rattle.walk.specs.Walks.{clean}
use Rattle.key_shown.specs.KeyBits.{shown_bits}
use Rattle.pieces.proofs.Promises.{FilmByPieces}
use Rattle.pieces_bits.specs.Promises as promised
use Rattle.pieces_bits.proofs.BitLaws.{most_shown}

pub BitsByPieces : promised.BitsByPieces
BitsByPieces container n how window size header chunks windows e learnt =
    most_shown header.audio_codec chunks ∙ sym (ap shown_bits (FilmByPieces container n how window size header chunks clean windows e learnt))
