-- The promises of specs/Promises.antt under their names: the film is the one that was learnt. Assumes nothing.
use Rattle.std.specs.Prelude.{Some, Ok, Err}
use Prim.Native.Nat.{ℕ}
use mathlib.Core.Path.{◌≡◌, refl, sym, ap, ◌∙◌}
use mathlib.Core.Bool.{Bool, true, false, cond}
use mathlib.Core.List.{List}
use native.Mathlib.Omega.{arith}
use lib.ListN.{length, take}
use lib.Dec.{ltb}
use borrow.Author.Tests.{ltb-false}
use Rattle.reading.specs.declared.Reading.{Reading}
use Rattle.reading.specs.declared.AudioChoice.TheVariants.{Chosen}
use Rattle.reading.specs.Choices.{as_original, applied_to}
use Rattle.header.specs.declared.Header.{Header}
use Rattle.header.specs.Headers.{header_of}
use Rattle.chunk.specs.declared.Chunk.{Chunk}
use Rattle.walk.specs.Walks.{clean}
use Rattle.film.specs.Films.{film, film_of}
use Rattle.key_shown.specs.KeyBits.{shown_bits}
use Rattle.film_apart.specs.FilmsApart.{film_apart}
use Rattle.index.specs.Indexing.{silent}
use Rattle.profile.specs.Streams.{first_of}
use Rattle.profile.specs.Profiles.{plain, heard, profile_of}
use Rattle.profile.proofs.StepLaws.{gathered_is_judged}
use Rattle.pieces.specs.Pieces.{too_long, settled_as, header_in}
use Rattle.pieces.proofs.Promises.{FilmByPieces}
use Rattle.pieces_bits.specs.PayloadBits.{most_bits}
use Rattle.pieces_bits.proofs.Promises.{BitsByPieces}
use Rattle.promises_pieces.specs.Promises as promised
use Rattle.promises_pieces.specs.Promises.{ReadByPieces}
use Rattle.promises_pieces.proofs.ProfileLaws.{all_show}

module _ (container : List ℕ) (how : Reading) (header : Header) (chunks : List Chunk) (read : ReadByPieces container how header chunks) where
  pub its_film : film_of container how ≡ film header (applied_to header.audio how) chunks
  its_film = FilmByPieces container read.beginning how read.window read.size header chunks clean read.windows read.opened read.learnt

  pub its_bits : most_bits header.audio_codec chunks ≡ shown_bits (film_of container how)
  its_bits = BitsByPieces container read.beginning how read.window read.size header chunks read.windows read.opened read.learnt

  -- a film that is too long has no header
  pub its_length : ltb 0x40000000 (length container) ≡ false
  unfolding header_in
  its_length = by_test (ltb 0x40000000 (length container)) refl read.opened
    where
      by_test : (b : Bool) → ltb 0x40000000 (length container) ≡ b
          → cond b (Some (Err too_long)) (settled_as (take read.beginning container) (length container) how.tables (header_of (take read.beginning container) how)) ≡ Some (Ok header)
          → b ≡ false
      by_test true t e = let z : ◌≡◌ {A = ℕ} 0 1 = cc in absurd (omega arith)
      by_test false t e = refl

pub StatementByPieces : promised.StatementByPieces
StatementByPieces container header chunks tenants lines lines' r read =
    let how = as_original Chosen in
    let f = its_film container how header chunks read in
    let b : shown_bits (film header (applied_to header.audio how) chunks) ≡ most_bits header.audio_codec chunks = ap shown_bits (sym f) ∙ sym (its_bits container how header chunks read) in
    let t = its_length container how header chunks read in
    (λ stated. rw (t, f, b) stated, λ stated. rw (t, f, b) at stated)

pub PartingByPieces : promised.PartingByPieces
PartingByPieces container how header chunks key key' read = ap (film_apart key key') (sym (its_film container how header chunks read))

pub IndexByPieces : promised.IndexByPieces
IndexByPieces container header chunks list list' r read indexing =
    let f = its_film container silent header chunks read in
    (rw f at indexing.0, rw f at indexing.1)

pub ProfileByPieces : promised.ProfileByPieces
unfolding profile_of
ProfileByPieces container header chunks read =
    let few = ltb-false 0x40000000 (length container) (its_length container heard header chunks read) in
    let shown = all_show container (applied_to header.audio heard) few read.window read.size read.windows header.start chunks clean read.learnt in
    rw (its_film container heard header chunks read) (ap Ok (gathered_is_judged container read.window chunks plain (first_of header.audio) shown))
