-- A loop that stores one record a turn: what it has stored, with what is left to store from here, is what the whole stores.
-- Where it goes by the plan, that is what the listing leaves. Assumes nothing.
use Rattle.std.specs.Prelude.{Option, Some, None, Result, Ok, Err}
use Rattle.film.specs.declared.Surveyed.{Surveyed}
use Rattle.refusal.specs.declared.Refusal.{Refusal}
use Prim.Native.Nat.{ℕ, zero, suc, ◌+◌, ◌-◌, ◌<◌, ◌≤◌, ◌^◌}
use mathlib.Core.Path.{◌≡◌, refl, sym, ap, ◌∙◌}
use mathlib.Core.List.{List, [], ◌∷◌, map}
use mathlib.Core.Logic.{⊎_elim}
use native.Mathlib.Omega.{arith}
use native.Mathlib.Numerals.{add-one}
use lib.ListN.{length, set, length-set}
use lib.Seq.{sets}
use borrow.Author.Tests.{lt-ltb, le-ltb}
use Rattle.laws.proofs.Side.{side}
use Rattle.reading.specs.declared.Reading.{Reading}
use Rattle.reading.specs.declared.Applied.{Applied}
use Rattle.chunk.specs.declared.Chunk.{Chunk}
use Rattle.chunk.specs.Chunks.{chunk_at}
use Rattle.walk.specs.Walks.{Walk, walk_from}
use Rattle.walk.proofs.WalkLaws.{walk_over, walk_found, walk_refused}
use Rattle.header.specs.declared.Header.{Header}
use Rattle.film.specs.Films.{film, film_of, survey_of}
use Rattle.film.proofs.FilmLaws.{surveyed_film}
use Rattle.list.specs.declared.ChunkRecord.{ChunkRecord}
use Rattle.list.specs.declared.Plan.{Plan}
use Rattle.list.specs.declared.RecordStep.{RecordStep}
use Rattle.list.specs.Listing.{record_of, listed_in, listed_of, records_of, filled_by}
use Rattle.list.specs.Filling.{records_in, start_in, reading_in, plan_of, step_at}

-- so many records are stored from i on, of the chunks from a place on
unfoldable pub fill_for : List ℕ → Applied → ℕ → ℕ → ℕ → List ChunkRecord → List ChunkRecord
fill_for container reading zero place i list = list
fill_for container reading (suc left) place i list =
    fill_for container reading left (step_at container reading place).next (suc i) (set list i (step_at container reading place).made)

-- what the whole loop stores
abbrev pub fill_by : List ℕ → Plan → List ChunkRecord → List ChunkRecord
fill_by container plan list = fill_for container plan.reading plan.records plan.start 0 list

-- where the loop stands: so many records are filled, and the next is of the chunk at a place
pub record Stored (container : List ℕ) (plan : Plan) (list : List ChunkRecord) : Type 0 where
  pub place : ℕ
  pub filled : ℕ
  pub now : List ChunkRecord
  pub upto : filled ≤ plan.records
  pub fits : place < 2 ^ 64
  pub long : length now ≡ length list
  pub same : fill_for container plan.reading (plan.records - filled) place filled now ≡ fill_by container plan list

module _ (container : List ℕ) (plan : Plan) (list : List ChunkRecord) where
  abbrev pub begins : plan.start < 2 ^ 64 → Stored container plan list
  begins h = record {
    place = plan.start;
    filled = 0;
    now = list;
    upto = omega arith;
    fits = h;
    long = refl;
    same = ap (λ (left : ℕ). fill_for container plan.reading left plan.start 0 list) (omega arith);
  }

  pub one_more : (place i : ℕ) (now : List ChunkRecord) → i < plan.records
      → fill_for container plan.reading (plan.records - i) place i now
      ≡ fill_for container plan.reading (plan.records - (i + 1)) (step_at container plan.reading place).next (i + 1) (set now i (step_at container plan.reading place).made)
  unfolding fill_for
  one_more place i now h = let e : plan.records - i ≡ suc (plan.records - (i + 1)) = omega arith in rw (e, add-one i)

  abbrev pub turned : (t : Stored container plan list) → t.filled < plan.records → (r : RecordStep) → r ≡ step_at container plan.reading t.place → r.next < 2 ^ 64 → Stored container plan list
  turned t h r e f = record {
    place = r.next;
    filled = t.filled + 1;
    now = set t.now t.filled r.made;
    upto = omega arith;
    fits = f;
    long = length-set t.now t.filled r.made ∙ t.long;
    same = rw e (sym (one_more t.place t.filled t.now h) ∙ t.same);
  }

  pub ended : (t : Stored container plan list) → plan.records ≤ t.filled → t.now ≡ fill_by container plan list
  unfolding fill_for
  ended t h = let e : plan.records - t.filled ≡ 0 = omega arith in rw e at t.same

-- ---- as many records as there are chunks are the records of the chunks

none : (chunks : List Chunk) → length chunks ≡ 0 → chunks ≡ []
none [] e = refl
none (chunk ∷ chunks) e = absurd (omega arith)

abbrev size : Walk → ℕ
size walk = length walk.chunks

module _ (container : List ℕ) (reading : Applied) where
  abbrev chunks : ℕ → List Chunk
  chunks place = (walk_from container reading place).chunks

  abbrev Fills : ℕ → Type 0
  Fills left = (place i : ℕ) (list : List ChunkRecord) → length (chunks place) ≡ left → fill_for container reading left place i list ≡ sets list i (map record_of (chunks place))

  fill_step : (left : ℕ) → Fills left → (place i : ℕ) (list : List ChunkRecord) (step : Result (Option Chunk) Refusal) → chunk_at container reading place ≡ step → length (chunks place) ≡ suc left
      → fill_for container reading (suc left) place i list ≡ sets list i (map record_of (chunks place))
  unfolding fill_for step_at
  fill_step left ih place i list (Ok None) e h = absurd (omega (arith, h, ap size (walk_over container reading place e)))
  fill_step left ih place i list (Ok (Some chunk)) e h =
      let f = walk_found container reading place chunk e in
      let g : fill_for container reading (suc left) place i list ≡ sets list i (map record_of (chunk ∷ chunks chunk.next)) =
      rw e (ih chunk.next (suc i) (set list i (record_of chunk)) (omega (arith, h, ap size f))) in
      g ∙ sym (ap (λ (walk : Walk). sets list i (map record_of walk.chunks)) f)
  fill_step left ih place i list (Err refusal) e h = absurd (omega (arith, h, ap size (walk_refused container reading place refusal e)))

  fills : (left : ℕ) → Fills left
  unfolding fill_for
  fills zero place i list h = rw (none (chunks place) h)
  fills (suc left) place i list h = fill_step left (fills left) place i list (chunk_at container reading place) refl h

-- ---- by the plan

-- a plan counts no more records than there is room for
few : (room : ℕ) (s : Result Surveyed Refusal) → records_in (listed_in room s) ≤ room
few room (Ok survey) = ⊎_elim (λ h. rw (lt-ltb room survey.count h) (omega arith)) (λ h. rw (le-ltb room survey.count h) (omega arith)) (side room survey.count)
few room (Err refusal) = omega arith

module _ (container : List ℕ) (reading : Reading) (list : List ChunkRecord) where
  abbrev Leaves : Result Surveyed Refusal → Type 0
  Leaves s = fill_for container (reading_in reading s) (records_in (listed_in (length list) s)) (start_in s) 0 list ≡ filled_by (listed_in (length list) s) list (records_of (film_of container reading))

  -- of a film of so many chunks
  leaves_film : (header : Header) (applied : Applied) (chunks : List Chunk) (video audio : ℕ) → chunks ≡ (walk_from container applied header.start).chunks
      → film_of container reading ≡ film header applied chunks → Leaves (Ok (record { header = header; reading = applied; count = length chunks; video = video; audio = audio }))
  unfolding fill_for
  leaves_film header applied chunks video audio w e =
      rw e (
      ⊎_elim
      (λ h. rw (lt-ltb (length list) (length chunks) h))
      (λ h. rw (le-ltb (length list) (length chunks) h) (rw w (fills container applied _ header.start 0 list refl)))
      (side (length list) (length chunks)))

  leaves : (s : Result Surveyed Refusal) → survey_of (film_of container reading) ≡ s → Leaves s
  unfolding fill_for
  leaves (Ok survey) e =
      let f = surveyed_film container reading survey.header survey.reading survey.count survey.video survey.audio e in
      let n : length (walk_from container survey.reading survey.header.start).chunks ≡ survey.count = cc in
      rw (← n) (leaves_film survey.header survey.reading _ survey.video survey.audio refl f)
  leaves (Err refusal) e = refl

  -- the plan of a listing into this list
  abbrev pub planned : Plan
  planned = plan_of (length list) reading (survey_of (film_of container reading))

  pub plan_few : planned.records ≤ length list
  plan_few = few (length list) (survey_of (film_of container reading))

  pub plan_leaves : fill_by container planned list ≡ filled_by (listed_of container reading (length list)) list (records_of (film_of container reading))
  plan_leaves = leaves (survey_of (film_of container reading)) refl
