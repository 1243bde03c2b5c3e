-- The promises of specs/Promises.antt, each under its name: only the outputs take the key, and only a film that is accepted changes them; a film that is written
-- piece by piece is written so by the functions below. Assumes nothing.
use Rattle.std.specs.Prelude.{Result, Ok, Err}
use Rattle.extract.specs.declared.Contents.{Contents}
use Rattle.refusal.specs.declared.Refusal.{Refusal}
use Prim.Native.Nat.{ℕ}
use mathlib.Core.Path.{◌≡◌, refl, sym, ap, ◌∙◌}
use mathlib.Core.List.{List, ◌++◌, map}
use mathlib.Core.Logic.{inl, inr, ⊎_elim}
use lib.ListN.{length, take}
use Rattle.laws.proofs.OneAnswer.{no_second_answer}
use Rattle.extract.specs.Extraction.{extracted_of, left_by}
use Rattle.replies.specs.FilmReplies.{film_reply}
use Rattle.write_plan.specs.Films.{bytes_of, header_blocks, audio_in, film_bytes}
use Rattle.write_plan.specs.Sizes.{header_size, size_in}
use Rattle.write_plan.specs.Planning.{sized_of, headed_by, planned_of}
use Rattle.write.specs.Writing.{ends_of}
use Rattle.write_pieces.proofs.Promises.{WhoeverWritesThePieces}
use Rattle.usm.specs.Writes.{packing_by}
use Rattle.usm.specs.Promises as promised
use Rattle.usm.proofs.PieceLaws.{written_so, under, below, went_below, put_below, written_whole}

pub NoKeyChangesTheReply : promised.NoKeyChangesTheReply
NoKeyChangesTheReply container reading key key' fallback video audio r r' video_after audio_after video_after' audio_after' l l' = no_second_answer l.0 l'.0

-- an answer whose number is not 0 leaves an output
left : (fallback : ℕ) (answer : Result Contents Refusal) (out stream : List ℕ) → ((film_reply fallback answer).number ≡ 0 → ⊥) → left_by answer out stream ≡ out
left fallback (Ok contents) out stream h = absurd (h refl)
left fallback (Err refusal) out stream h = refl

pub RefusalsLeaveBothOutputs : promised.RefusalsLeaveBothOutputs
RefusalsLeaveBothOutputs container reading key fallback video audio r video_after audio_after l h =
    let answer = extracted_of container reading video audio in
    let refused : (film_reply (length fallback) answer).number ≡ 0 → ⊥ = rw l.0 at h in
    (l.1.1 ∙ left (length fallback) answer video _ refused, l.1.2 ∙ left (length fallback) answer audio _ refused)

pub PiecesAreWhatIsWritten : promised.PiecesAreWhatIsWritten
PiecesAreWhatIsWritten name video audio asked out out' r turns last end end' e film film' w header z went ends y written =
    let packing = packing_by asked in
    let planned = headed_by (header_size (length name) packing) (sized_of (length name) (length video) (size_in packing (length audio)) packing) in
    let whole =
    WhoeverWritesThePieces name video audio packing asked.key.number out out' r.size (map (below asked video audio) turns) (below asked video audio last) end end' e.size
    (under asked.key.given asked.key.number) (written_so planned (bytes_of (header_blocks name packing)) out out' r header z) (went_below asked video audio last 0 turns went)
    (written_so (Ok (length (ends_of packing.audio))) (ends_of packing.audio) end end' e ends y) in
    ⊎_elim inl (λ f. inr (f ∙ sym whole.0 ∙ ap (λ (l : List ℕ). take r.size out' ++ (l ++ take e.size end')) (put_below asked video audio turns)))
    (written_whole (planned_of name video (audio_in packing audio) packing) (film_bytes name video (audio_in packing audio) packing) film film' w whole.1 written)
