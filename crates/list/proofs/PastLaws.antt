-- A list whose first so many elements are replaced stays as it was past them; and a count that is answered had room. Assumes nothing.
use Rattle.std.specs.Prelude.{Result, Ok, Err}
use Rattle.refusal.specs.declared.Refusal.{Refusal}
use Prim.Native.Nat.{ℕ, suc, ◌+◌, ◌≤◌}
use mathlib.Core.Path.{◌≡◌, refl, ap, ◌∙◌}
use mathlib.Core.Bool.{Bool, true, false, cond}
use mathlib.Core.List.{List, [], ◌∷◌, map, ◌++◌}
use native.Mathlib.Omega.{arith}
use lib.ListN.{length, drop}
use lib.Seq.{sets, sets-eq, length-sets, drop_at}
use lib.Dec.{ltb}
use borrow.Author.Tests.{ltb-false}
use Rattle.refusal.specs.declared.Cause.TheVariants.{ShortList}
use Rattle.list.specs.Listing.{counted_in, list_reply, filled_by}
use Rattle.list.specs.Promises.{SamePast}

module _ {A : Type 0} (list records : List A) where
  pub past_records : (n : ℕ) → length records ≡ n → n ≤ length list → SamePast n list (sets list 0 records)
  past_records n long room =
      let front : sets list 0 records ≡ records ++ drop (length records) list =
      sets-eq records list 0 (omega arith) ∙ ap (λ (k : ℕ). records ++ drop k list) (let z : 0 + length records ≡ length records = omega arith in z) in
      (length-sets list 0 records, ap (drop n) front ∙ drop_at records (drop (length records) list) n long ∙ ap (λ (k : ℕ). drop k list) long)

  -- whatever is answered: a refusal fills nothing
  pub past_count : (answer : Result ℕ Refusal) → ((n : ℕ) → answer ≡ Ok n → (length records ≡ n) × (n ≤ length list)) → SamePast (list_reply answer).count list (filled_by answer list records)
  past_count (Ok n) fits = let f = fits n refl in past_records n f.0 f.1
  past_count (Err refusal) fits = (refl, refl)

-- a count that is answered is the one that was asked, and has room
pub had_room : (room count n : ℕ) → counted_in room count ≡ Ok n → (count ≡ n) × (n ≤ room)
had_room room count n e = by_room (ltb room count) refl e
  where
    by_room : (b : Bool) → ltb room count ≡ b → cond {A = Result ℕ Refusal} b (Err (record { cause = ShortList count; place = 0 })) (Ok count) ≡ Ok n → (count ≡ n) × (n ≤ room)
    by_room true l e = let z : ◌≡◌ {A = ℕ} 0 1 = cc in absurd (omega arith)
    by_room false l e = let same : count ≡ n = cc in (same, omega (arith, same, ltb-false room count l))

pub mapped_length : {A B : Type 0} (f : A → B) (s : List A) → length (map f s) ≡ length s
mapped_length f [] = refl
mapped_length f (x ∷ s) = ap suc (mapped_length f s)
