-- A payload that is read is the part of that length that stands where payloads do. Assumes nothing.
use Prim.Native.Nat.{ℕ, ◌+◌, ◌≤◌, ◌<◌}
use mathlib.Core.Path.{◌≡◌, refl, sym, ap, ◌∙◌}
use mathlib.Core.List.{List, [], ◌++◌}
use mathlib.Core.Bool.{Bool, true, false, not, cond, ◌&&◌}
use mathlib.Core.Logic.{⊎_elim}
use native.Mathlib.Omega.{arith}
use lib.ListN.{length, take, drop, length-drop, length-append}
use lib.Seq.{take_at, drop_at, length-take-le}
use lib.Dec.{leb, ltb}
use borrow.Author.Tests.{le-leb, lt-leb}
use Rattle.laws.proofs.Side.{side}
use Rattle.part.specs.Parts.{part_at}
use Rattle.signature.specs.Signatures.{stands_at}
use Rattle.turns.specs.declared.Track.{Track}
use Rattle.turns.specs.declared.Form.{Form}
use Rattle.turns.specs.Chunks.{chunk_of, gap_of, len_in, inside_of, is_end, payload_in}

pub part_none : (bytes : List ℕ) (place : ℕ) → part_at bytes place 0 ≡ []
part_none bytes place = either (leb (place + 0) (length bytes)) where
  either : (t : Bool) → cond t (take 0 (drop place bytes)) [] ≡ []
  either true = refl
  either false = refl

pub part_again : (bytes : List ℕ) (place n : ℕ) → part_at bytes place (length (part_at bytes place n)) ≡ part_at bytes place n
part_again bytes place n =
    ⊎_elim
    (λ (h : length bytes < place + n).
    let z : part_at bytes place n ≡ [] = rw (lt-leb (place + n) (length bytes) h) in
    ap (λ (l : List ℕ). part_at bytes place (length l)) z ∙ part_none bytes place ∙ sym z)
    (λ (h : place + n ≤ length bytes).
    let l : length (part_at bytes place n) ≡ n = rw (le-leb (place + n) (length bytes) h) (length-take-le n (drop place bytes) (rw length-drop (omega arith))) in
    ap (part_at bytes place) l) (side (length bytes) (place + n))

pub part_between : (x y z : List ℕ) (place n : ℕ) → length x ≡ place → length y ≡ n → part_at (x ++ (y ++ z)) place n ≡ y
part_between x y z place n e f =
    rw (le-leb (place + n) (length (x ++ (y ++ z))) (omega (arith, e, f, length-append x (y ++ z), length-append y z)))
    (ap (take n) (drop_at x (y ++ z) place e) ∙ take_at y z n f)

module _ (form : Form) (bytes : List ℕ) where
  picked : (t : Bool) → part_at bytes (28 + gap_of form) (length (cond t (inside_of form bytes) [])) ≡ cond t (inside_of form bytes) []
  picked true = part_again bytes (28 + gap_of form) (len_in form bytes)
  picked false = part_none bytes (28 + gap_of form)

  pub payload_is : (track : Track) (from : ℕ) (going : Bool) → part_at bytes (28 + gap_of form) (length (payload_in form track from going bytes)) ≡ payload_in form track from going bytes
  unfolding payload_in
  payload_is track from true = picked (not (ltb 0x10000 (length (inside_of form bytes))) && stands_at (chunk_of form track from (inside_of form bytes)) bytes 0 && not (is_end form (inside_of form bytes)))
  payload_is track from false = part_none bytes (28 + gap_of form)
