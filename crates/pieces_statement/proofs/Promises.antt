-- The promises of specs/Promises.antt, each under its name: the film is the one that was learnt, and its streams are no longer than it is. Assumes nothing.
use Rattle.std.specs.Prelude.{Ok, Err}
use Prim.Native.Nat.{ℕ, ◌+◌, ◌≤◌}
use mathlib.Core.Path.{◌≡◌, refl, sym, ap, ◌∙◌}
use mathlib.Core.Logic.{◌↔◌, ⊎_elim}
use mathlib.Core.Bool.{Bool, true, false, cond}
use mathlib.Core.List.{List, []}
use native.Mathlib.Omega.{arith}
use lib.ListN.{length}
use lib.Dec.{ltb}
use borrow.Author.Tests.{ltb-false}
use Rattle.refusal.specs.declared.Refusal.{Refusal}
use Rattle.refusal.specs.declared.Cause.TheVariants.{TooLong, BadTenants}
use Rattle.reading.specs.declared.Reading.{Reading}
use Rattle.reading.specs.declared.AudioChoice.TheVariants.{Chosen}
use Rattle.reading.specs.Choices.{as_original, applied_to}
use Rattle.header.specs.declared.Header.{Header}
use Rattle.chunk.specs.declared.Chunk.{Chunk}
use Rattle.walk.specs.Walks.{stopped, video_size, audio_size}
use Rattle.film.specs.Films.{refused, film_of, survey_of}
use Rattle.extract.proofs.Promises.{SizesFitTheContainer}
use Rattle.list.specs.declared.ListReply.{ListReply}
use Rattle.list.specs.Listing.{filled_by}
use Rattle.tenants.specs.Tenants.{are_bad}
use Rattle.statement.specs.Statements.{refused_by, lines_of, Stated}
use Rattle.pieces.proofs.Promises.{FilmByPieces, RefusedByABeginning}
use Rattle.pieces_bits.specs.PayloadBits.{most_bits}
use Rattle.promises_pieces.specs.Promises.{ReadByPieces}
use Rattle.promises_pieces.proofs.Promises.{its_film, its_bits, its_length, StatementByPieces}
use Rattle.pieces_statement.specs.declared.Tally.{Tally}
use Rattle.pieces_statement.specs.Tallies.{added, nothing, with_chunks, some_masked}
use Rattle.pieces_statement.specs.Stating.{StatedAs}
use Rattle.pieces_statement.specs.Promises as promised
use Rattle.pieces_statement.specs.Promises.{RefusedByPieces, GatheredOf}
use Rattle.pieces_statement.proofs.TallyLaws.{whole_tally}

-- ---- the tally

module _ (container : List ℕ) (how : Reading) (header : Header) (chunks : List Chunk) (read : ReadByPieces container how header chunks) where
  sizes_fit : video_size chunks + audio_size chunks ≤ 0x40000000
  sizes_fit =
      let fit = SizesFitTheContainer container how header (applied_to header.audio how) (length chunks) (video_size chunks) (audio_size chunks) (ap survey_of (its_film container how header chunks read)) in
      let short = ltb-false 0x40000000 (length container) (its_length container how header chunks read) in
      omega (arith, fit, short)

  its_tally : with_chunks header.audio_codec nothing chunks
      ≡ record { bits = most_bits header.audio_codec chunks; masked = some_masked header.audio_codec chunks; video = video_size chunks; audio = audio_size chunks }
  its_tally = whole_tally header.audio_codec chunks sizes_fit

  its_sum : added (video_size chunks) (audio_size chunks) ≡ video_size chunks + audio_size chunks
  its_sum = let fit = sizes_fit in omega (arith, fit)

pub TallyByPieces : promised.TallyByPieces
TallyByPieces container how header chunks read = rw (← its_bits container how header chunks read) (its_tally container how header chunks read)

-- ---- the statement

-- nothing is filled in where the film is refused
never_filled : (long bad : Bool) (refusal : Refusal) (lines records : List (List ℕ))
    → filled_by (cond long (refused_by TooLong) (cond bad (refused_by BadTenants) (Err refusal))) lines records ≡ lines
never_filled true bad refusal lines records = refl
never_filled false true refusal lines records = refl
never_filled false false refusal lines records = refl

module _ (container : List ℕ) (tenants lines lines' : List (List ℕ)) (r : ListReply) where
  of_film : (tally : Tally) → GatheredOf container (Ok tally) → StatedAs (length container) (Ok tally) tenants lines r lines' ↔ Stated container tenants lines r lines'
  of_film tally (header, chunks, read, e) =
      let how = as_original Chosen in
      let t = its_length container how header chunks read in
      let g = e ∙ its_tally container how header chunks read in
      let s = its_sum container how header chunks read in
      let whole = StatementByPieces container header chunks tenants lines lines' r read in
      (λ stated. whole.0 (rw (t, g, s) at stated), λ stated. rw (t, g, s) (whole.1 stated))

  film_refused : (refusal : Refusal) → RefusedByPieces container (as_original Chosen) refusal → film_of container (as_original Chosen) ≡ refused refusal
  film_refused refusal by =
      let how = as_original Chosen in
      ⊎_elim
      (λ h. RefusedByABeginning container by.beginning how refusal h)
      (λ (header, chunks, h, learnt). FilmByPieces container by.beginning how by.window by.size header chunks (stopped refusal) by.windows h learnt)
      by.refuses

  of_refused : (refusal : Refusal) → GatheredOf container (Err refusal) → StatedAs (length container) (Err refusal) tenants lines r lines' ↔ Stated container tenants lines r lines'
  of_refused refusal by =
      let f = film_refused refusal by in
      let long = ltb 0x40000000 (length container) in
      let none = never_filled long (are_bad tenants) refusal lines [] in
      let none' = never_filled long (are_bad tenants) refusal lines (lines_of (refused refusal) tenants) in
      (λ (e, p). rw f (e, p ∙ none ∙ sym none'), λ stated. let (e, p) = rw f at stated in (e, p ∙ none' ∙ sym none))

pub StatementAsGathered : promised.StatementAsGathered
StatementAsGathered container (Ok tally) tenants lines lines' r of = of_film container tenants lines lines' r tally of
StatementAsGathered container (Err refusal) tenants lines lines' r of = of_refused container tenants lines lines' r refusal of
