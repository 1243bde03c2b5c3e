-- Whether bytes are a piece, by the tests in their order; what a piece is known to be; and what is left of it. Assumes nothing.
use mathlib.Core.Path.{◌≡◌, refl}
use mathlib.Core.Logic.{◌⊎◌, inl, inr}
use mathlib.Core.Bool.{Bool, true, false, ◌&&◌, ◌||◌}
use mathlib.Core.List.{List}
use Prim.Native.Nat.{ℕ, ◌+◌, ◌%◌, ◌≤◌, ◌<◌}
use lib.ListN.{length}
use lib.Dec.{leb, eqb}
use borrow.Author.Tests.{le-leb, lt-leb, leb-true, eqb-true, eq-eqb, ne_eqb}
use Rattle.unmasking.specs.declared.Mask.{Mask}
use Rattle.unmasking.specs.Unmasking.{cleared_by}
use Rattle.payload_pieces.specs.Pieces.{is_edge, begins, ends, is_piece, cleared_after, cleared_piece, piece_left}

module _ (total place lent bytes : ℕ) where
  -- bytes that reach past the payload's end are none
  pub too_far : total < place + bytes → false ≡ is_piece total place lent bytes
  unfolding is_piece
  too_far h = rw (lt-leb (place + bytes) total h)

  pub no_start : place + bytes ≤ total → begins place lent ≡ false → false ≡ is_piece total place lent bytes
  unfolding is_piece
  no_start h e = rw (le-leb (place + bytes) total h, e)

  pub by_end : place + bytes ≤ total → begins place lent ≡ true → ends total (place + bytes) ≡ is_piece total place lent bytes
  unfolding is_piece
  by_end h e = rw (le-leb (place + bytes) total h, e)

-- ---- what a piece is known to be

both_first : (a b : Bool) → a && b ≡ true → a ≡ true
both_first true b e = refl
both_first false b e = e

both_second : (a b : Bool) → a && b ≡ true → b ≡ true
both_second true b e = e
both_second false true e = refl
both_second false false e = e

either : (a b : Bool) → a || b ≡ true → (a ≡ true) ⊎ (b ≡ true)
either true b e = inl refl
either false b e = inr e

pub record Edge (place : ℕ) : Type 0 where
  pub far : 0x240 ≤ place
  pub between : place % 0x20 ≡ 0

edge : (place : ℕ) → is_edge place ≡ true → Edge place
edge place e =
    record {
      far = leb-true 0x240 place (both_first (leb 0x240 place) (eqb (place % 0x20) 0) e);
      between = eqb-true (place % 0x20) 0 (both_second (leb 0x240 place) (eqb (place % 0x20) 0) e);
    }

-- after a clear row, at an edge
pub record After (place lent : ℕ) : Type 0 where
  pub row : lent ≡ 0x20
  pub edge : Edge place

begun : (place lent : ℕ) → (eqb place 0 ≡ true) ⊎ (eqb lent 0x20 && is_edge place ≡ true) → (place ≡ 0) ⊎ After place lent
begun place lent (inl e) = inl (eqb-true place 0 e)
begun place lent (inr e) =
    inr (record { row = eqb-true lent 0x20 (both_first (eqb lent 0x20) (is_edge place) e); edge = edge place (both_second (eqb lent 0x20) (is_edge place) e) })

ended : (total place : ℕ) → (eqb place total ≡ true) ⊎ (is_edge place ≡ true) → (place ≡ total) ⊎ Edge place
ended total place (inl e) = inl (eqb-true place total e)
ended total place (inr e) = inr (edge place e)

pub record Piece (total place lent bytes : ℕ) : Type 0 where
  pub inside : place + bytes ≤ total
  pub start : (place ≡ 0) ⊎ After place lent
  pub end : (place + bytes ≡ total) ⊎ Edge (place + bytes)

pub known_piece : (total place lent bytes : ℕ) → is_piece total place lent bytes ≡ true → Piece total place lent bytes
unfolding is_piece
known_piece total place lent bytes e =
    let inside = leb (place + bytes) total in
    let rest = both_second inside (begins place lent && ends total (place + bytes)) e in
    record {
      inside = leb-true (place + bytes) total (both_first inside (begins place lent && ends total (place + bytes)) e);
      start = begun place lent (either (eqb place 0) (eqb lent 0x20 && is_edge place) (both_first (begins place lent) (ends total (place + bytes)) rest));
      end = ended total (place + bytes) (either (eqb (place + bytes) total) (is_edge (place + bytes)) (both_second (begins place lent) (ends total (place + bytes)) rest));
    }

row_lent : (place lent : ℕ) → (place ≡ 0 → ⊥) → (place ≡ 0) ⊎ After place lent → lent ≡ 0x20
row_lent place lent h (inl e) = absurd (h e)
row_lent place lent h (inr a) = a.row

-- a piece that is not the first has a row before it
pub lent_row : (total place lent bytes : ℕ) → is_piece total place lent bytes ≡ true → (place ≡ 0 → ⊥) → lent ≡ 0x20
lent_row total place lent bytes e h = row_lent place lent h (known_piece total place lent bytes e).start

-- ---- what is left of it

module _ (number : ℕ) (mask : Mask) (total place : ℕ) (row piece : List ℕ) where
  pub left_first : is_piece total place (length row) (length piece) ≡ true → place ≡ 0 → cleared_by number mask piece ≡ piece_left number mask total place row piece
  unfolding piece_left cleared_piece
  left_first e h = rw (e, eq-eqb place 0 h)

  pub left_after : is_piece total place (length row) (length piece) ≡ true → (place ≡ 0 → ⊥) → cleared_after number mask row piece ≡ piece_left number mask total place row piece
  unfolding piece_left cleared_piece
  left_after e h = rw (e, ne_eqb place 0 h)

  pub left_none : is_piece total place (length row) (length piece) ≡ false → piece ≡ piece_left number mask total place row piece
  unfolding piece_left
  left_none e = rw e
