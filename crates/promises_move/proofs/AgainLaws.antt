-- What is moved is found where it is moved to, and its parts are the same. Assumes nothing.
use Rattle.std.specs.Prelude.{Option, Result, Ok, Err}
use Rattle.header.specs.declared.Header.{Header}
use Rattle.refusal.specs.declared.Refusal.{Refusal}
use Prim.Native.Nat.{ℕ, ◌+◌, ◌≤◌}
use mathlib.Core.Path.{◌≡◌, refl, sym, ap, ◌∙◌, subst}
use mathlib.Core.List.{List, []}
use mathlib.Core.Bool.{Bool, true, false, not, cond, ◌||◌, ◌&&◌}
use native.Mathlib.Omega.{arith}
use lib.ListN.{length, drop}
use lib.Dec.{ltb}
use borrow.Author.Tests.{le-ltb, ltb-false}
use Rattle.refusal.specs.declared.Cause.{Cause}
use Rattle.refusal.specs.declared.Cause.TheVariants.{TooLong, Foreign}
use Rattle.signature.specs.Signatures.{same_bytes}
use Rattle.reading.specs.declared.AudioChoice.TheVariants.{Chosen}
use Rattle.reading.specs.Choices.{as_original}
use Rattle.utf8.specs.Utf8.{is_utf8}
use Rattle.write_plan.specs.declared.Packing.{Packing}
use Rattle.write_plan.specs.Payloads.{payloads_of}
use Rattle.write_plan.specs.Planning.{is_given, any_marked, refused_by, planned_of}
use Rattle.write_plan.proofs.PlanLaws.{Accepted, accepted}
use Rattle.turns.specs.declared.Form.TheVariants.{Old, New}
use Rattle.turns.specs.Turns as turns
use Rattle.turns.proofs.FrontLaws.{both_true, same_true}
use Rattle.turns.proofs.ReadLaws.{no_audio}
use Rattle.old_film.specs.Finding as old
use Rattle.old_film.specs.Promises.{WrittenFrom}
use Rattle.old_film.proofs.Promises.{FoundAgain}
use Rattle.moved_film.specs.Finding as new
use Rattle.moved_film.specs.Finding.{answer_in, header_by, packing_by, is_new_by}
use Rattle.moved_film.specs.Promises as promised
use Rattle.moved_film.proofs.Promises as proved
use Rattle.moved_film.proofs.HeaderLaws.{not_alone}
use Rattle.film_move.specs.FromOld.{packing_of, new_bytes, new_plan, cause_of, from_old}
use Rattle.film_move.specs.ToOld.{old_of, to_old}
use Rattle.film_move.proofs.MarkLaws.{read_marked, read_unmarked}
use Rattle.film_move.proofs.ToLaws.{read_is, silent, name_few, is_rebuilt_lem}
use Rattle.promises_move.proofs.CodecLaws.{low, low_fits, low_film, low_plan}
use Rattle.promises_move.proofs.ShortLaws.{old_short}

-- ---- what is known where a size is answered

refused_not : (t : Bool) (cause : Cause) (p : Result ℕ Refusal) (n : ℕ) → cond t (refused_by cause) p ≡ Ok n → (t ≡ false) × (p ≡ Ok n)
refused_not true cause p n e = let z : ◌≡◌ {A = ℕ} 0 1 = cc in absurd (omega arith)
refused_not false cause p n e = (refl, e)

foreign_not : (t : Bool) (cause : Cause) (p : Result ℕ Refusal) (n : ℕ) → cond t p (refused_by cause) ≡ Ok n → (t ≡ true) × (p ≡ Ok n)
foreign_not true cause p n e = (refl, e)
foreign_not false cause p n e = let z : ◌≡◌ {A = ℕ} 0 1 = cc in absurd (omega arith)

-- ---- a film that is moved onward

module _ (film : List ℕ) (mpeg other : Option ℕ) (n : ℕ) (e : from_old film mpeg other ≡ Ok n) where
  abbrev P : old.Parts
  P = old.parts_of film

  abbrev by : Packing
  by = packing_of P.audio mpeg other

  pub moved_so : (length film ≤ 0x40000000) × (old.is_old film ≡ true) × (new_plan P mpeg other ≡ Ok n)
  unfolding from_old
  moved_so =
      let a = refused_not (ltb 0x40000000 (length film)) TooLong _ n e in
      let b = foreign_not (old.is_old film) (cause_of film) _ n a.1 in
      (ltb-false 0x40000000 (length film) a.0, b.0, b.1)

  pub moved_taken : Accepted P.name P.read.video P.read.audio by n
  moved_taken = accepted P.name P.read.video P.read.audio by n moved_so.2

  pub film_is : (is_utf8 P.name ≡ true) × (film ≡ old.rebuilt P)
  film_is =
      let b = both_true (is_utf8 P.name) (same_bytes film (old.rebuilt P)) moved_so.1 in
      (b.0, same_true film (old.rebuilt P) b.1)

  pub film_silent : P.audio ≡ false → P.read.audio ≡ []
  unfolding old.parts_of
  film_silent f = no_audio Old (length (drop P.start film) + 1) 0 true P.audio (drop P.start film) f

  pub film_short : length film ≤ n
  film_short =
      omega (arith, ap length film_is.1, old_short P.name P.read.video P.read.audio by film_silent, moved_taken.sized)

  -- what it is moved to is found with the same parts, but for what of its codecs has no room in a cell, and is moved back to it
  abbrev bytes : List ℕ
  bytes = new_bytes P mpeg other

  abbrev least : Packing
  least = packing_of P.audio (low mpeg) (low other)

  found : (new.is_new bytes ≡ true) × promised.WrittenFrom P.name P.read.video P.read.audio least (new.parts_of bytes)
  found =
      subst (λ (l : List ℕ). (new.is_new l ≡ true) × promised.WrittenFrom P.name P.read.video P.read.audio least (new.parts_of l))
      (low_film P.name P.read.video P.read.audio P.audio mpeg other)
      (proved.FoundAgain P.name P.read.video P.read.audio least n film_is.0 refl (low_fits mpeg) (low_fits other) film_silent
      (low_plan P.name P.read.video P.read.audio P.audio mpeg other ∙ moved_so.2))

  pub back_is : old_of (new.parts_of bytes) ≡ film
  back_is = rw (found.1.0, found.1.1, found.1.3, found.1.4) (sym film_is.1)

  pub back_planned : to_old bytes ≡ Ok (length film)
  unfolding to_old
  back_planned = rw (le-ltb 0x40000000 (length bytes) moved_taken.within, found.0) (ap (λ (l : List ℕ). Ok (length l)) back_is)

-- ---- a container that is moved back

alone_not : (c : List ℕ) (answer : Result Header Refusal) → answer_in c ≡ answer → is_new_by c answer ≡ true
    → (not (packing_by (header_by answer)).audio && is_given (packing_by (header_by answer)).audio_codec) ≡ false
alone_not c (Ok head) e t = not_alone c (as_original Chosen) head e
alone_not c (Err refusal) e t = let z : ◌≡◌ {A = ℕ} 0 1 = cc in absurd (omega arith)

module _ (c : List ℕ) (t : new.is_new c ≡ true) where
  abbrev Q : new.Parts
  Q = new.parts_of c

  abbrev rest : List ℕ
  rest = drop Q.start c

  given : (not Q.packing.audio && is_given Q.packing.audio_codec) ≡ false
  unfolding new.parts_of new.is_new
  given = alone_not c (answer_in c) refl t

  unmarked : (any_marked (payloads_of Q.read.video) || any_marked (payloads_of Q.read.audio)) ≡ false
  unmarked =
      ap (λ (r : turns.Read). any_marked (payloads_of r.video) || any_marked (payloads_of r.audio)) (read_is c)
      ∙ sym (read_marked New (length rest + 1) 0 true Q.packing.audio rest) ∙ read_unmarked (length rest + 1) 0 true Q.packing.audio rest

  packing_is : packing_of Q.packing.audio Q.packing.mpeg_codec Q.packing.audio_codec ≡ Q.packing
  unfolding new.parts_of
  packing_is = refl

  pub new_short : length (old_of Q) ≤ length c
  new_short = omega (arith, ap length (is_rebuilt_lem c t).1, old_short Q.name Q.read.video Q.read.audio Q.packing (silent c))

  module _ (within : length c ≤ 0x40000000) where
    abbrev mpeg : Option ℕ
    mpeg = Q.packing.mpeg_codec

    abbrev other : Option ℕ
    other = Q.packing.audio_codec

    abbrev back : List ℕ
    back = old_of Q

    there : (old.is_old back ≡ true) × WrittenFrom Q.name Q.read.video Q.packing.audio Q.read.audio (old.parts_of back)
    there = FoundAgain Q.name Q.read.video Q.packing.audio Q.read.audio (is_rebuilt_lem c t).0 (omega (arith, name_few c, within)) (silent c)

    pub onward_is : new_bytes (old.parts_of back) mpeg other ≡ c
    onward_is = rw (there.1.0, there.1.1, there.1.3, there.1.4, packing_is) (sym (is_rebuilt_lem c t).1)

    plan_is : planned_of Q.name Q.read.video Q.read.audio Q.packing ≡ Ok (length c)
    unfolding planned_of
    plan_is = rw (given, unmarked, ← (is_rebuilt_lem c t).1, le-ltb 0x40000000 (length c) within)

    pub onward_planned : from_old back mpeg other ≡ Ok (length c)
    unfolding from_old
    onward_planned =
        rw (le-ltb 0x40000000 (length back) (omega (arith, new_short, within)), there.0)
        (rw (there.1.0, there.1.1, there.1.3, there.1.4, packing_is) plan_is)

pub back_so : (c : List ℕ) (n : ℕ) → to_old c ≡ Ok n → (length c ≤ 0x40000000) × (new.is_new c ≡ true) × (length (old_of (new.parts_of c)) ≡ n)
unfolding to_old
back_so c n e =
    let a = refused_not (ltb 0x40000000 (length c)) TooLong _ n e in
    let b = foreign_not (new.is_new c) Foreign _ n a.1 in
    (ltb-false 0x40000000 (length c) a.0, b.0, cc b.1)
