-- The promises of specs/Promises.antt, each under its name: the film is the one that was learnt, and its streams are no longer than it is. Assumes nothing.
use Rattle.std.specs.Prelude.{Option, Result}
use Rattle.refusal.specs.declared.Refusal.{Refusal}
use Prim.Native.Nat.{ℕ, ◌+◌, ◌≤◌}
use mathlib.Core.Path.{sym, ap, ap₂, ◌∙◌}
use mathlib.Core.List.{List}
use native.Mathlib.Omega.{arith}
use lib.ListN.{length}
use borrow.Author.Tests.{ltb-false}
use Rattle.reading.specs.declared.Reading.{Reading}
use Rattle.reading.specs.Choices.{applied_to}
use Rattle.header.specs.declared.Header.{Header}
use Rattle.chunk.specs.declared.Chunk.{Chunk}
use Rattle.walk.specs.Walks.{video_size, audio_size}
use Rattle.film.specs.Films.{survey_of}
use Rattle.extract.proofs.Promises.{SizesFitTheContainer}
use Rattle.film_apart.specs.declared.Stream.TheVariants.{VideoStream, AudioStream}
use Rattle.film_apart.specs.declared.Parting.{Parting}
use Rattle.film_apart.specs.FilmsApart.{apart_from}
use Rattle.promises_pieces.specs.Promises.{ReadByPieces}
use Rattle.promises_pieces.proofs.Promises.{its_film, its_length, PartingByPieces}
use Rattle.pieces_apart.specs.declared.Passed.{Passed}
use Rattle.pieces_apart.specs.Passing.{or_else, past_all}
use Rattle.pieces_apart.specs.Promises as promised
use Rattle.pieces_apart.proofs.PassingLaws.{kept, either, stays, in_two, found}

module _ (container : List ℕ) (how : Reading) (header : Header) (chunks : List Chunk) (read : ReadByPieces container how header chunks) where
  both_fit : video_size chunks + audio_size chunks ≤ 0x40000000
  both_fit =
      let fit = SizesFitTheContainer container how header (applied_to header.audio how) (length chunks) (video_size chunks) (audio_size chunks) (ap survey_of (its_film container how header chunks read)) in
      let short = ltb-false 0x40000000 (length container) (its_length container how header chunks read) in
      omega (arith, fit, short)

pub PartingChunkByChunk : promised.PartingChunkByChunk
PartingChunkByChunk container how header chunks key key' read =
    let codec = header.audio_codec in
    let fit = both_fit container how header chunks read in
    ap₂ or_else (found VideoStream codec key key' 0 chunks (omega (arith, fit))) (found AudioStream codec key key' 0 chunks (omega (arith, fit)))
    ∙ either (apart_from VideoStream codec key key' 0 chunks) (apart_from AudioStream codec key key' 0 chunks)
    ∙ PartingByPieces container how header chunks key key' read

pub PartedVideoIsEnough : promised.PartedVideoIsEnough
PartedVideoIsEnough codec key key' video audio before after parted =
    let here = past_all VideoStream codec key key' video before in
    let whole = ap (λ (p : Passed). p.parting) (in_two VideoStream codec key key' video before after) ∙ stays VideoStream codec key key' here.bytes here.parting after parted in
    kept here.parting audio.parting parted
    ∙ sym (ap (λ (p : Result (Option Parting) Refusal). or_else p (past_all AudioStream codec key key' audio after).parting) whole ∙ kept here.parting (past_all AudioStream codec key key' audio after).parting parted)
