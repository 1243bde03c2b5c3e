-- A film written piece by piece through C is written as by the functions below: each call that is not refused is a call that goes well there. Assumes nothing.
use Rattle.std.specs.Prelude.{Some, None, Result, Ok, Err}
use Rattle.refusal.specs.declared.Refusal.{Refusal}
use Prim.Native.Nat.{ℕ, ◌+◌, ◌≤◌}
use mathlib.Core.Path.{◌≡◌, refl, sym, ap, ap₂, ◌∙◌}
use mathlib.Core.List.{List, [], ◌∷◌, ◌++◌, map}
use mathlib.Core.Bool.{Bool, true, false, cond}
use mathlib.Core.Logic.{◌⊎◌, inl, inr}
use native.Mathlib.Omega.{arith}
use lib.ListN.{length, take}
use lib.Seq.{sets}
use lib.Dec.{ltb, eqb}
use borrow.Author.Tests.{ltb-false}
use Rattle.refusal.specs.declared.Cause.TheVariants.{ShortRoom}
use Rattle.unmasking.specs.Unmasking.{key_by, mask_by}
use Rattle.lent.specs.declared.SizeReply.{SizeReply}
use Rattle.lent.specs.Written.{written_in, left_by, size_reply}
use Rattle.list.proofs.ReplyLaws.{numbered}
use Rattle.write_plan.specs.Films.{audio_in}
use Rattle.write.specs.Writing.{WritingAs}
use Rattle.write_pieces.specs.Storing.{asked_of}
use Rattle.write_pieces.specs.Writers.{Under, bytes_by, Call, payload_by, WentOn, put_by}
use Rattle.write_pieces.proofs.CallLaws.{first_bytes}
use Rattle.usm.specs.declared.writing.PackingBytes.{PackingBytes}
use Rattle.usm.specs.Writes.{packing_by, WrittenAs}
use Rattle.usm.specs.Pieces.{Calls, WentOnFor, put_for}

-- an answer whose number is 0 is a size
sized : (answer : Result ℕ Refusal) → (size_reply answer).number ≡ 0 → answer ≡ Ok (size_reply answer).size
sized (Ok n) z = refl
sized (Err refusal) z = absurd (numbered refusal.cause z)

-- the same of a reply
module _ (answer : Result ℕ Refusal) (r : SizeReply) (q : r ≡ size_reply answer) (z : r.number ≡ 0) where
  pub replied_size : Ok r.size ≡ answer
  replied_size = ap (λ (s : SizeReply). Ok s.size) q ∙ sym (sized answer (sym (ap (λ (s : SizeReply). s.number) q) ∙ z))

pub written_so : (planned : Result ℕ Refusal) (bytes out out' : List ℕ) (r : SizeReply) → WrittenAs (written_in (length out) planned) bytes out r out' → r.number ≡ 0
    → WritingAs planned bytes out (Ok r.size) out'
written_so planned bytes out out' r w z =
    let a = replied_size (written_in (length out) planned) r w.0 z in
    (a, w.1 ∙ ap (λ (q : Result ℕ Refusal). left_by q out bytes) (sym a))

-- the number that C gives beside a key
pub under : (given number : ℕ) → Under number (key_by given number)
under given number = by (eqb given 0)
  where
    by : (t : Bool) → Under number (cond t None (Some number))
    by true = tt
    by false = refl

module _ (asked : PackingBytes) (video audio : List ℕ) where
  abbrev pub below : Calls → Call
  below calls = record { out = calls.out; out' = calls.out'; reply = calls.chunk; stored = calls.stored; size = calls.reply.size }

  pub went_below : (last : Calls) (turn : ℕ) (turns : List Calls) → WentOnFor asked video audio last turn turns
      → WentOn asked.key.number video audio (packing_by asked) (below last) turn (map below turns)
  went_below last turn [] w = w
  went_below last turn (calls ∷ others) w =
      let payload = payload_by video (audio_in (packing_by asked) audio) calls.chunk in
      ((w.0.0, w.0.1, w.0.2, (replied_size (asked_of payload) calls.reply w.0.3.0 w.0.4, w.0.3.1)), went_below last calls.chunk.next others w.1)

  pub put_below : (turns : List Calls) → bytes_by put_by (map below turns) ≡ bytes_by put_for turns
  unfolding bytes_by
  put_below [] = refl
  put_below (calls ∷ others) = ap (λ (l : List ℕ). put_for calls ++ l) (put_below others)

-- what is written where a film of this length is planned: it, or the output is too short
pub written_whole : (planned : Result ℕ Refusal) (bytes out out' : List ℕ) (r : SizeReply) → planned ≡ Ok (length bytes) → WrittenAs (written_in (length out) planned) bytes out r out'
    → (r.number ≡ 16) ⊎ (take r.size out' ≡ bytes)
written_whole planned bytes out out' r p w = by (ltb (length out) (length bytes)) refl
  where
    by : (t : Bool) → ltb (length out) (length bytes) ≡ t → (r.number ≡ 16) ⊎ (take r.size out' ≡ bytes)
    by true e =
        let a : written_in (length out) planned ≡ Err (record { cause = ShortRoom (length bytes); place = 0 }) = ap (written_in (length out)) p ∙ rw e in
        inl (ap (λ (s : SizeReply). s.number) w.0 ∙ ap (λ (q : Result ℕ Refusal). (size_reply q).number) a)
    by false e =
        let a : written_in (length out) planned ≡ Ok (length bytes) = ap (written_in (length out)) p ∙ rw e in
        let s : r.size ≡ length bytes = ap (λ (s : SizeReply). s.size) w.0 ∙ ap (λ (q : Result ℕ Refusal). (size_reply q).size) a in
        inr (first_bytes bytes out out' r.size (sym s) (omega (arith, ltb-false (length out) (length bytes) e)) (w.1 ∙ ap (λ (q : Result ℕ Refusal). left_by q out bytes) a))
