-- What is answered and what the list holds, by the counting and the filling of its entries; and by the film. Assumes nothing.
use Rattle.std.specs.Prelude.{Result, Ok, Err}
use Prim.Native.Nat.{ℕ, ◌+◌, ◌≤◌, ◌<◌}
use mathlib.Core.Path.{◌≡◌, refl, sym, ap, ◌∙◌}
use mathlib.Core.List.{List, [], ◌∷◌, ◌++◌}
use mathlib.Core.Logic.{⊎_elim}
use native.Mathlib.Omega.{arith}
use lib.ListN.{length, take, drop}
use lib.Seq.{sets, sets-eq, length-sets, take_at}
use borrow.Author.Tests.{lt-ltb, le-ltb}
use Rattle.laws.proofs.Side.{side}
use Rattle.refusal.specs.declared.Refusal.{Refusal}
use Rattle.reading.specs.declared.Applied.{Applied}
use Rattle.walk.specs.Walks.{walk_from}
use Rattle.header.specs.declared.Header.{Header}
use Rattle.film.specs.Films.{Film, film, refused, film_of, survey_of}
use Rattle.film.proofs.FilmLaws.{surveyed_film, surveyed_refusal}
use Rattle.list.specs.declared.ListReply.{ListReply}
use Rattle.list.specs.Listing.{counted_in, list_reply}
use Rattle.list.proofs.ReplyLaws.{counted}
use Rattle.index.specs.Entries.{entries_of}
use Rattle.index.specs.Indexing.{silent, indexed_in, entered_by, index_of, Indexing}

-- no list at all holds nothing, whatever is put into it
nothing : (list : List (List ℕ)) → length list ≡ 0 → list ≡ []
nothing [] e = refl
nothing (entry ∷ list) e = absurd (omega arith)

-- the entries were counted into a part of no length, which stands before the list
module _ (list part entries : List (List ℕ)) (p : part ≡ sets [] 0 entries) where
  as_before : part ++ list ≡ list
  as_before = rw (p, nothing (sets [] 0 entries) (length-sets [] 0 entries))

  module _ (count : ℕ) (answer : Result ℕ Refusal) (n : count ≡ length entries) (a : answer ≡ counted_in (length (part ++ list)) count) where
    abbrev Answered : List (List ℕ) → Type 0
    Answered list' = (answer ≡ counted_in (length list) (length entries)) × (list' ≡ entered_by list entries answer)

    pub filled : (m : ℕ) → answer ≡ Ok m → (list' : List (List ℕ)) → list' ≡ sets (part ++ list) 0 entries → Answered list'
    filled m e list' h = (rw (as_before, n) at a, rw e (rw as_before at h))

    pub not_filled : (refusal : Refusal) → answer ≡ Err refusal → Answered (part ++ list)
    not_filled refusal e = (rw (as_before, n) at a, rw e as_before)

module _ (container : List ℕ) (list : List (List ℕ)) where
  pub built : (header : Header) (applied : Applied) (count video audio : ℕ) → survey_of (film_of container silent) ≡ Ok (record { header = header; reading = applied; count = count; video = video; audio = audio })
      → (answer : Result ℕ Refusal) (list' : List (List ℕ)) → answer ≡ counted_in (length list) (length (entries_of (walk_from container applied header.start).chunks))
      → list' ≡ entered_by list (entries_of (walk_from container applied header.start).chunks) answer
      → (r : ListReply) → r ≡ list_reply answer → Indexing container list r list'
  built header applied count video audio e answer list' a h r q =
      rw (surveyed_film container silent header applied count video audio e) (q ∙ ap list_reply a, rw a at h)

  pub not_built : (refusal : Refusal) → survey_of (film_of container silent) ≡ Err refusal → (r : ListReply) → r ≡ list_reply (Err refusal) → Indexing container list r list
  not_built refusal e r q = rw (surveyed_refusal container silent refusal e) (q, refl)

-- ---- what a reply without a refusal says

-- there was room
had_room : (room count n : ℕ) → counted_in room count ≡ Ok n → (count ≡ n) × (count ≤ room)
had_room room count n e =
    ⊎_elim (λ (h : room < count). let z : ◌≡◌ {A = ℕ} 0 1 = (let f = rw (lt-ltb room count h) at e in cc) in absurd (omega arith))
    (λ (h : count ≤ room). (let f = rw (le-ltb room count h) at e in cc, h)) (side room count)

-- a list with entries at its front begins with them
in_front : (list entries : List (List ℕ)) → length entries ≤ length list → take (length entries) (sets list 0 entries) ≡ entries
in_front list entries h = rw (sets-eq entries list 0 (omega arith)) (take_at entries (drop (0 + length entries) list) (length entries) refl)

module _ (list list' : List (List ℕ)) (r : ListReply) where
  by_film : (f : Film) → r ≡ list_reply (indexed_in (length list) f) → list' ≡ entered_by list (index_of f) (indexed_in (length list) f) → r.number ≡ 0
      → (r ≡ list_reply (Ok (length (index_of f)))) × (take r.count list' ≡ index_of f)
  by_film (film header applied chunks) q h z =
      let entries = entries_of chunks in
      let e = counted (counted_in (length list) (length entries)) (rw q at z) in
      let room = had_room (length list) (length entries) (list_reply (counted_in (length list) (length entries))).count e in
      let n : r.count ≡ length entries = ap (λ (s : ListReply). s.count) q ∙ sym room.0 in
      (q ∙ ap list_reply e ∙ ap (λ (m : ℕ). list_reply (Ok m)) (sym room.0), rw (n, h, e) (in_front list entries room.1))
  by_film (refused refusal) q h z = let z : ◌≡◌ {A = ℕ} 0 1 = (let f = counted (Err refusal) (rw q at z) in cc) in absurd (omega arith)

-- the reply counts the entries, and the list begins with them
pub replied : (container : List ℕ) (list list' : List (List ℕ)) (r : ListReply) → Indexing container list r list' → r.number ≡ 0
    → (r ≡ list_reply (Ok (length (index_of (film_of container silent))))) × (take r.count list' ≡ index_of (film_of container silent))
replied container list list' r i z = by_film list list' r (film_of container silent) i.0 i.1 z
