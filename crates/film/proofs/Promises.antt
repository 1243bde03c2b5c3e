-- The promises of specs/Promises.antt, each under its name: audio choice and payload mode are not asked in the header, and the walk goes where the other goes.
-- Assumes nothing.
use Rattle.std.specs.Prelude.{Result, Ok, Err}
use Prim.Native.Nat.{ℕ}
use mathlib.Core.Path.{◌≡◌, refl, sym, ap, ap₂, ◌∙◌}
use mathlib.Core.List.{List, map}
use mathlib.Core.Bool.{Bool, true, false, ◌&&◌}
use mathlib.Core.Logic.{◌⊎◌, inl, inr}
use native.Mathlib.Omega.{arith}
use lib.Dec.{eqb}
use Rattle.refusal.specs.declared.Refusal.{Refusal}
use Rattle.reading.specs.declared.AudioChoice.{AudioChoice}
use Rattle.reading.specs.declared.AudioChoice.TheVariants.{NotChosen, Chosen, Channel}
use Rattle.reading.specs.declared.Reading.{Reading}
use Rattle.reading.specs.declared.Applied.{Applied}
use Rattle.reading.specs.Choices.{takes_channel, applied_to}
use Rattle.chunk.specs.declared.Chunk.{Chunk}
use Rattle.chunk.specs.Chunks.{chunk_at}
use Rattle.chunk.specs.Channels.{keeping, only, silenced}
use Rattle.chunk.proofs.ChannelLaws.{TakesSome}
use Rattle.walk.specs.Walks.{Ending, clean, stopped, walk_from}
use Rattle.walk.proofs.ChannelLaws.{keeping_walk}
use Rattle.walk.proofs.Promises.{ModesAgreeOnAWalk, RefusedByAChunk}
use Rattle.block.specs.Blocks.{table_block, codec_block, name_block}
use Rattle.header.specs.declared.Header.{Header}
use Rattle.header.specs.Headers.{step1, step2, step3, step3_audio, step4, step5, step6, step7, step7_table, header_of}
use Rattle.film.specs.Films.{film, refused, ended_as, walked_as, film_from, after_header, film_of}
use Rattle.film.specs.Promises as promised
use Rattle.film.specs.Promises.{with_audio, with_payloads}

-- the header is read by the table mode alone
same_header : (container : List ℕ) (reading other : Reading) → reading.tables ≡ other.tables → header_of container reading ≡ header_of container other
unfolding header_of step1 step2 step3 step3_audio step4 step5 step6 step7 step7_table table_block codec_block name_block
same_header container reading other e = rw e

-- what a film that is accepted says of its header and of its walk
record Accepted (container : List ℕ) (reading : Reading) (header : Header) (applied : Applied) (chunks : List Chunk) (a : Result Header Refusal) : Type 0 where
  read : a ≡ Ok header
  applies : applied_to header.audio reading ≡ applied
  clean_end : (walk_from container (applied_to header.audio reading) header.start).ending ≡ clean
  found : (walk_from container (applied_to header.audio reading) header.start).chunks ≡ chunks

module _ (container : List ℕ) (reading : Reading) (header : Header) (applied : Applied) (chunks : List Chunk) where
  ended : (h : Header) (k : Applied) (all : List Chunk) (ending : Ending) → ended_as h k all ending ≡ film header applied chunks → (h ≡ header) × (k ≡ applied) × (all ≡ chunks) × (ending ≡ clean)
  ended h k all clean e = (cc, cc, cc, refl)
  ended h k all (stopped refusal) e = let z : ◌≡◌ {A = ℕ} 0 1 = cc in absurd (omega arith)

  of_answer : (a : Result Header Refusal) → after_header (film_from container reading) a ≡ film header applied chunks → Accepted container reading header applied chunks a
  unfolding film_from
  of_answer (Ok h) e =
      let k = applied_to h.audio reading in
      let w = walk_from container k h.start in
      let all = ended h k w.chunks w.ending e in
      rw (sym all.0) (record { read = refl; applies = all.1; clean_end = all.3; found = all.2 })
  of_answer (Err refusal) e = let z : ◌≡◌ {A = ℕ} 0 1 = cc in absurd (omega arith)

  of_film : film_of container reading ≡ film header applied chunks → Accepted container reading header applied chunks (header_of container reading)
  unfolding film_of
  of_film e = of_answer (header_of container reading) e

-- a film with more audio is one with less
less : (container : List ℕ) (reading : Reading) (choice fewer : AudioChoice) (kept : ℕ → Bool)
    → ((present : Bool) → TakesSome kept (applied_to present (with_audio choice reading)) (applied_to present (with_audio fewer reading)))
    → (header : Header) (applied : Applied) (chunks : List Chunk) → film_of container (with_audio choice reading) ≡ film header applied chunks
    → film_of container (with_audio fewer reading) ≡ film header (applied_to header.audio (with_audio fewer reading)) (map (keeping kept) chunks)
unfolding film_of film_from
less container reading choice fewer kept narrow header applied chunks e =
    let all = of_film container (with_audio choice reading) header applied chunks e in
    let one = applied_to header.audio (with_audio fewer reading) in
    let walked = keeping_walk kept container (applied_to header.audio (with_audio choice reading)) one (narrow header.audio) header.start all.clean_end in
    ap (after_header (film_from container (with_audio fewer reading))) (same_header container (with_audio fewer reading) (with_audio choice reading) refl ∙ all.read)
    ∙ ap (walked_as header one) (walked ∙ ap (λ (l : List Chunk). record { chunks = map (keeping kept) l; ending = clean }) all.found)

-- one channel is taken of what all is taken of, with audio and without
one_of_all : (reading : Reading) (channel : ℕ) (present : Bool)
    → TakesSome (λ n. eqb n channel) (applied_to present (with_audio Chosen reading)) (applied_to present (with_audio (Channel channel) reading))
one_of_all reading channel true = record { mode = refl; takes = λ n. refl }
one_of_all reading channel false = record { mode = refl; takes = λ n. refl }

pub OneChannelOfAFilm : promised.OneChannelOfAFilm
OneChannelOfAFilm container reading channel header applied chunks e =
    less container reading Chosen (Channel channel) (λ n. eqb n channel) (one_of_all reading channel) header applied chunks e

-- nothing is taken of what any is taken of
none_taken : (t : Bool) → false ≡ t && false
none_taken true = refl
none_taken false = refl

none_of_any : (reading : Reading) (choice : AudioChoice) (present : Bool)
    → TakesSome (λ n. false) (applied_to present (with_audio choice reading)) (applied_to present (with_audio NotChosen reading))
none_of_any reading choice true = record { mode = refl; takes = λ n. none_taken (takes_channel choice n) }
none_of_any reading choice false = record { mode = refl; takes = λ n. refl }

pub NoAudioOfAFilm : promised.NoAudioOfAFilm
NoAudioOfAFilm container reading choice header applied chunks e = less container reading choice NotChosen (λ n. false) (none_of_any reading choice) header applied chunks e

pub ModesAgreeOnAFilm : promised.ModesAgreeOnAFilm
unfolding film_of film_from
ModesAgreeOnAFilm container reading mode header applied chunks e plain =
    let a = of_film container reading header applied chunks e in
    let one = applied_to header.audio reading in
    let other = applied_to header.audio (with_payloads mode reading) in
    let walked = ModesAgreeOnAWalk container one other header.start refl a.clean_end (rw (← a.applies, ← a.found) at plain) in
    ap (after_header (film_from container (with_payloads mode reading))) (same_header container (with_payloads mode reading) reading refl ∙ a.read)
    ∙ ap (walked_as header other) walked ∙ ap₂ (λ (l : List Chunk) (end : Ending). ended_as header other l end) a.found a.clean_end

-- ---- who refuses

module _ (container : List ℕ) (reading : Reading) (refusal : Refusal) where
  abbrev ByChunk : Header → Type 0
  ByChunk header = chunk_at container (applied_to header.audio reading) refusal.place ≡ Err refusal

  by_ending : (header : Header) (chunks : List Chunk) (ending : Ending) → (walk_from container (applied_to header.audio reading) header.start).ending ≡ ending
      → ended_as header (applied_to header.audio reading) chunks ending ≡ refused refusal → ByChunk header
  by_ending header chunks clean w e = let z : ◌≡◌ {A = ℕ} 0 1 = cc in absurd (omega arith)
  by_ending header chunks (stopped other) w e =
      let same : other ≡ refusal = cc in
      RefusedByAChunk container (applied_to header.audio reading) header.start refusal (w ∙ ap stopped same)

  by_answer : (a : Result Header Refusal) → after_header (film_from container reading) a ≡ refused refusal
      → (a ≡ Err refusal) ⊎ ((header : Header) × ((a ≡ Ok header) × ByChunk header))
  unfolding film_from
  by_answer (Ok header) e =
      let w = walk_from container (applied_to header.audio reading) header.start in
      inr (header, (refl, by_ending header w.chunks w.ending refl e))
  by_answer (Err other) e = inl (cc)

pub RefusedByHeaderOrChunk : promised.RefusedByHeaderOrChunk
unfolding film_of
RefusedByHeaderOrChunk container reading refusal e = by_answer container reading refusal (header_of container reading) e
