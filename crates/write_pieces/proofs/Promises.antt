-- The promises of specs/Promises.antt, each under its name. Assumes nothing.
use Rattle.std.specs.Prelude.{Ok}
use Prim.Native.Nat.{ℕ, ◌+◌, ◌≤◌}
use mathlib.Core.Path.{◌≡◌, refl, sym, ap, ap₂, ◌∙◌}
use mathlib.Core.List.{List, [], ◌++◌}
use mathlib.Core.Bool.{Bool, true, false, cond}
use native.Mathlib.Omega.{arith}
use lib.ListN.{length}
use Rattle.lent.specs.Written.{written_in}
use Rattle.lent.proofs.RoomLaws.{planned_so}
use Rattle.write_blocks.specs.Blocks.{head_of}
use Rattle.write_plan.specs.declared.Packing.{Packing}
use Rattle.write_plan.specs.Films.{letters_of, bytes_of, header_blocks, audio_in, film_bytes}
use Rattle.write_plan.specs.Sizes.{header_size, size_in}
use Rattle.write_plan.specs.Planning.{sized_of, headed_by, marked_by, planned_of}
use Rattle.write_plan.proofs.LengthLaws.{head_length, header_length}
use Rattle.write_plan.proofs.PlanLaws.{headed_so, planned_by, accepted}
use Rattle.write.specs.Writing.{ends_of}
use Rattle.write_pieces.specs.declared.Piece.{Piece}
use Rattle.write_pieces.specs.Writers.{Taken}
use Rattle.write_pieces.specs.Promises as promised
use Rattle.write_pieces.proofs.WalkLaws.{all_taken}
use Rattle.write_pieces.proofs.FilmLaws.{chunks_made, marks_made}
use Rattle.write_pieces.proofs.CallLaws.{all_answered, first_bytes}

-- the length of the audio that there is
audio_there : (there : Bool) (audio : List ℕ) → cond there (length audio) 0 ≡ length (cond there audio [])
audio_there true audio = refl
audio_there false audio = refl

module _ (video audio : List ℕ) (packing : Packing) where
  taken_there : (pieces : List Piece) → Taken (length video) (size_in packing (length audio)) 0 pieces → Taken (length video) (length (audio_in packing audio)) 0 pieces
  taken_there pieces taken = rw (← audio_there packing.audio audio) taken

pub FilmOfPieces : promised.FilmOfPieces
unfolding film_bytes
FilmOfPieces name video audio packing number pieces under taken =
    ap (λ (l : List ℕ). bytes_of (header_blocks name packing) ++ (l ++ ends_of packing.audio))
    (sym (chunks_made number packing under video (audio_in packing audio) pieces (taken_there video audio packing pieces taken)))

pub RefusedByPieces : promised.RefusedByPieces
RefusedByPieces name video audio packing pieces taken =
    planned_by name video (audio_in packing audio) packing
    ∙ rw (marks_made video (audio_in packing audio) pieces (taken_there video audio packing pieces taken), audio_there packing.audio audio)

pub TurnsEnd : promised.TurnsEnd
TurnsEnd video audio = all_taken video audio (video + audio + 2) 0 (omega arith)

-- so many were planned
so_many : (out : List ℕ) (m n : ℕ) → Ok n ≡ written_in (length out) (Ok m) → (m ≡ n) × (n ≤ length out)
so_many out m n e = let s = planned_so (length out) (Ok m) n (sym e) in let k : m ≡ n = cc s.0 in (k, s.1)

pub OutputsHoldPieces : promised.OutputsHoldPieces
OutputsHoldPieces = (
  λ name video audio packing out out' n w.
      let planned = sized_of (length name) video (size_in packing audio) packing in
      let s = planned_so (length out) (headed_by (header_size (length name) packing) planned) n (sym w.0) in
      let h = headed_so (header_size (length name) packing) planned n s.0 in
      first_bytes (bytes_of (header_blocks name packing)) out out' n (header_length name packing ∙ h.1) s.1 w.1,
  λ stream len out out' n w.
      let s = so_many out 0x20 n w.0 in
      first_bytes (head_of (letters_of stream) len) out out' n (head_length (letters_of stream) len ∙ s.0) s.1 w.1,
  λ audio out out' n w.
      let s = so_many out (length (ends_of audio)) n w.0 in
      first_bytes (ends_of audio) out out' n s.0 s.1 w.1,
)

-- a film's size is its length, where it is planned
its_length : (name video audio : List ℕ) (packing : Packing) (n : ℕ) → planned_of name video audio packing ≡ Ok n → planned_of name video audio packing ≡ Ok (length (film_bytes name video audio packing))
its_length name video audio packing n e = e ∙ ap Ok (accepted name video audio packing n e).sized

pub WhoeverWritesThePieces : promised.WhoeverWritesThePieces
WhoeverWritesThePieces name video audio packing number out out' n calls last end end' m under header went ends =
    let all = all_answered number video audio packing last 0 calls went in
    let planned = sized_of (length name) (length video) (size_in packing (length audio)) packing in
    let h = headed_so (header_size (length name) packing) planned n (planned_so (length out) (headed_by (header_size (length name) packing) planned) n (sym header.0)).0 in (
      ap₂ (λ (l t : List ℕ). l ++ t) (OutputsHoldPieces.0 name (length video) (length audio) packing out out' n header)
          (ap₂ (λ (l t : List ℕ). l ++ t) all.bytes (OutputsHoldPieces.2 packing.audio end end' m ends))
          ∙ FilmOfPieces name video audio packing number all.pieces under all.taken,
      its_length name video (audio_in packing audio) packing _
          (RefusedByPieces name video audio packing all.pieces all.taken ∙ ap (λ (t : Bool). marked_by t planned) all.unmarked ∙ ap (marked_by false) h.0),
    )
