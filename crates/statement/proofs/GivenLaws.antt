-- What is known of a statement that was not refused: its tenants are not bad, and the lines given are those of the tenants in rising order. Assumes nothing.
use Rattle.std.specs.Prelude.{Result, Ok}
use Rattle.refusal.specs.declared.Refusal.{Refusal}
use Prim.Native.Nat.{ℕ, zero, suc, ◌+◌, ◌≤◌, ◌<◌}
use mathlib.Core.Path.{◌≡◌, refl, sym, ap, ap₂, ◌∙◌}
use mathlib.Core.Bool.{Bool, true, false, cond, ◌||◌}
use mathlib.Core.List.Memᴰ
use mathlib.Core.List.Permᴰ
use mathlib.Core.List.{List, [], ◌∷◌, map, Memᴰ}
use native.Mathlib.Omega.{arith}
use lib.ListN.{length, get_or, take, drop}
use lib.Seq.{sets, sets-eq, take_at}
use lib.Dec.{ltb, eqb}
use borrow.Author.Tests.{ltb-false}
use Rattle.refusal.specs.declared.Cause.TheVariants.{TooLong, ShortList, BadTenants}
use Rattle.film.specs.Films.{Film, film, refused}
use Rattle.list.specs.declared.ListReply.{ListReply}
use Rattle.list.specs.Listing.{list_reply}
use Rattle.list.proofs.ReplyLaws.{counted}
use Rattle.key_shown.specs.KeyBits.{shown_bits}
use Rattle.tenants.specs.Tenants.{number_in, repeated, are_bad}
use Rattle.tenants.specs.Shares.{line_of, lines_from, line_at}
use Rattle.tenants.proofs.CountLaws.{perm_member}
use Rattle.tenants.proofs.RisingLaws.{Distinct, distinct, rising, perm_rising, RisingFrom, rises, lines_are}
use Rattle.statement.specs.Statements.{film_in, refused_by, stated_in, stated_of, copy_of, lines_of}
use Rattle.statement.specs.Promises.{lines_given, Answered}

-- an answer without a refusal is a count
count_of : (answer : Result ℕ Refusal) → (list_reply answer).number ≡ 0 → (n : ℕ) × (answer ≡ Ok n)
count_of answer e = ((list_reply answer).count, counted answer e)

-- and every test was passed
pub all_passed : (long bad : Bool) (room count n : ℕ) (f : Film) → cond long (refused_by TooLong) (cond bad (refused_by BadTenants) (stated_in room count f)) ≡ Ok n
    → (bad ≡ false) × (n ≡ count) × (count ≤ room)
all_passed true bad room count n f e = let z : ◌≡◌ {A = ℕ} 0 1 = cc in absurd (omega arith)
all_passed false true room count n f e = let z : ◌≡◌ {A = ℕ} 0 1 = cc in absurd (omega arith)
all_passed false false room count n (refused refusal) e = let z : ◌≡◌ {A = ℕ} 0 1 = cc in absurd (omega arith)
all_passed false false room count n (film header applied chunks) e = by_room (ltb room count) refl e
  where
    by_room : (b : Bool) → ltb room count ≡ b → cond b (refused_by (ShortList count)) (Ok count) ≡ Ok n → (false ≡ false) × (n ≡ count) × (count ≤ room)
    by_room true l e = let z : ◌≡◌ {A = ℕ} 0 1 = cc in absurd (omega arith)
    by_room false l e = (refl, cc, ltb-false room count l)

pub last_false : (a b c : Bool) → a || (b || c) ≡ false → c ≡ false
last_false true b c e = let z : ◌≡◌ {A = ℕ} 0 1 = cc in absurd (omega arith)
last_false false true c e = let z : ◌≡◌ {A = ℕ} 0 1 = cc in absurd (omega arith)
last_false false false c e = e

pub lines_long : (line : ℕ → List ℕ) (rank n : ℕ) → length (lines_from line rank n) ≡ n
unfolding lines_from
lines_long line rank zero = refl
lines_long line rank (suc n) = ap suc (lines_long line (suc rank) n)

module _ (container : List ℕ) (tenants lines lines' : List (List ℕ)) (r : ListReply) (a : Answered container tenants lines r lines') where
  abbrev pub shown_here : ℕ
  shown_here = shown_bits (film_in container)

  abbrev pub size_here : ℕ
  size_here = copy_of (film_in container)

  pub passed : (are_bad tenants ≡ false) × (stated_of container tenants (length lines) ≡ Ok (length tenants)) × (length tenants ≤ length lines)
  passed =
      let n = count_of (stated_of container tenants (length lines)) (ap (λ (r : ListReply). r.number) (sym a.stated.0) ∙ a.accepted) in
      let all = all_passed (ltb 0x40000000 (length container)) (are_bad tenants) (length lines) (length tenants) n.0 (film_in container) n.1 in
      (all.0, n.1 ∙ ap Ok all.1, all.2)

  pub no_two : Distinct tenants
  no_two = distinct tenants (last_false (eqb (length tenants) 0) (ltb 16 (length tenants)) (repeated tenants) passed.0)

  pub given : lines_given r lines' ≡ map (line_of shown_here size_here tenants) (rising tenants)
  given =
      let all = lines_of (film_in container) tenants in
      let long : length all ≡ length tenants = lines_long (line_at shown_here size_here tenants) 0 (length tenants) in
      let n : r.count ≡ length tenants = ap (λ (r : ListReply). r.count) (a.stated.0 ∙ ap list_reply passed.1) in
      let l : lines' ≡ sets lines 0 all = rw passed.1 at a.stated.1 in
      ap₂ take n l ∙ ap (take (length tenants)) (sets-eq all lines 0 (omega (arith, passed.2, long))) ∙ take_at all (drop (0 + length all) lines) (length tenants) long
      ∙ lines_are shown_here size_here tenants no_two

  -- a line is that of a tenant
  pub its_tenant : (line : List ℕ) → Memᴰ line (lines_given r lines') → (t : List ℕ) × Memᴰ t tenants × (line_of shown_here size_here tenants t ≡ line)
  its_tenant line m =
      let of = Memᴰ.of_map (line_of shown_here size_here tenants) (rising tenants) (rw given at m) in
      (of.0, perm_member (Permᴰ.symm (perm_rising tenants)) of.1, of.2)

  pub its_line : (t : List ℕ) → Memᴰ t tenants → Memᴰ (line_of shown_here size_here tenants t) (lines_given r lines')
  its_line t m = rw given (Memᴰ.map (line_of shown_here size_here tenants) (perm_member (perm_rising tenants) m))

-- ---- by their places

pub map_at : (f : List ℕ → List ℕ) (s : List (List ℕ)) (i : ℕ) → i < length s → get_or (map f s) i [] ≡ f (get_or s i [])
map_at f [] i h = absurd (omega arith)
map_at f (t ∷ s) zero h = refl
map_at f (t ∷ s) (suc i) h = map_at f s i (omega arith)

pub map_length : (f : List ℕ → List ℕ) (s : List (List ℕ)) → length (map f s) ≡ length s
map_length f [] = refl
map_length f (t ∷ s) = ap suc (map_length f s)

above : (low : ℕ) (s : List (List ℕ)) → RisingFrom low s → (i : ℕ) → i < length s → low ≤ number_in (get_or s i [])
above low [] r i h = absurd (omega arith)
above low (t ∷ s) r zero h = (rises r).0
above low (t ∷ s) r (suc i) h = omega (arith, (rises r).0, above (suc (number_in t)) s (rises r).1 i (omega arith))

pub places_rise : (low : ℕ) (s : List (List ℕ)) → RisingFrom low s → (i j : ℕ) → i < j → j < length s → number_in (get_or s i []) < number_in (get_or s j [])
places_rise low [] r i j h k = absurd (omega arith)
places_rise low (t ∷ s) r i zero h k = absurd (omega arith)
places_rise low (t ∷ s) r zero (suc j) h k = above (suc (number_in t)) s (rises r).1 j (omega arith)
places_rise low (t ∷ s) r (suc i) (suc j) h k = places_rise (suc (number_in t)) s (rises r).1 i j (omega arith) (omega arith)
