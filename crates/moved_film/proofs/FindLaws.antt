-- The pieces of which a container is compared with the film that is rebuilt from its parts. Assumes nothing.
use Rattle.std.specs.Prelude.{Some, None}
use Prim.Native.Nat.{ℕ, ◌+◌, ◌-◌, ◌≤◌, ◌<◌}
use mathlib.Core.Path.{◌≡◌, refl, sym, ap, ap₂, ◌∙◌}
use mathlib.Core.List.{List, [], ◌∷◌, ◌++◌, append_assoc}
use mathlib.Core.Bool.{Bool, true, false, cond, ◌&&◌}
use mathlib.Core.Logic.{⊎_elim}
use native.Mathlib.Omega.{arith}
use lib.ListN.{length, drop, length-append, length-drop, drop_of_length-le}
use lib.Seq.{take_all}
use lib.Dec.{eqb}
use borrow.Author.Tests.{le-leb, lt-leb}
use Rattle.laws.proofs.Side.{side}
use Rattle.part.specs.Parts.{part_at}
use Rattle.signature.specs.Signatures.{CRID, same_bytes, stands_at, filename}
use Rattle.utf8.specs.Utf8.{is_utf8}
use Rattle.word.specs.Bytes.{bytes32, zeros, padding}
use Rattle.write_blocks.specs.Blocks.{head_of, block_of}
use Rattle.write_blocks.specs.Tables.{table_head, table_with, name_table}
use Rattle.write_plan.specs.declared.Packing.{Packing}
use Rattle.write_plan.specs.Films.{film_bytes}
use Rattle.write_plan.proofs.LengthLaws.{head_length, table_length, block_length, ends_length}
use Rattle.turns.specs.declared.Form.TheVariants.{New}
use Rattle.turns.specs.declared.Turns.{Turns}
use Rattle.turns.specs.Turns.{chunks_of, Read, read_in, turns_by}
use Rattle.turns.proofs.FrontLaws.{front, stands_front, front_self, stands_then, same_front}
use Rattle.turns.proofs.ReadLaws.{read_whole}
use Rattle.old_film.proofs.FindLaws.{closing}
use Rattle.moved_film.specs.Finding.{parts_at, parts_from, found_as}
use Rattle.moved_film.proofs.FilmLaws.{header, ends, film_laid}

-- one piece, and what is known of the next
then : (some others bytes : List ℕ) (place next : ℕ) (t : Bool) → place + length some ≡ next → stands_at others bytes next ≡ t
    → stands_at (some ++ others) bytes place ≡ (stands_at some bytes place && t)
then some others bytes place next t e f = stands_then some others bytes place ∙ ap (λ (u : Bool). stands_at some bytes place && u) (ap (stands_at others bytes) e ∙ f)

-- what stands from a place on, as a part
pub rest_part : (bytes : List ℕ) (place : ℕ) → part_at bytes place (length bytes - place) ≡ drop place bytes
rest_part bytes place =
    ⊎_elim
    (λ (h : length bytes < place).
    let over : length bytes ≤ place = omega arith in
    rw (lt-leb (place + (length bytes - place)) (length bytes) (omega arith)) (sym (drop_of_length-le bytes over)))
    (λ (h : place ≤ length bytes).
    rw (le-leb (place + (length bytes - place)) (length bytes) (omega arith)) (take_all (length bytes - place) (drop place bytes) (rw length-drop (omega arith)))) (side (length bytes) place)

-- ---- the first block

module _ (name : List ℕ) where
  abbrev n : ℕ
  n = length name

  abbrev pub name_block : List ℕ
  name_block = block_of CRID (name_table name)

  abbrev head : List ℕ
  head = head_of CRID (54 + n)

  abbrev table : List ℕ
  table = table_head 0x5B 8 8 n

  abbrev cell : List ℕ
  cell = bytes32 0 ++ bytes32 n

  abbrev column : List ℕ
  column = filename ++ (0 ∷ [])

  abbrev pads : List ℕ
  pads = zeros (padding (54 + n))

  table_size : length (name_table name) ≡ 54 + n
  unfolding name_table
  table_size = table_length 0x5B filename cell name ∙ omega arith

  sized : (m : ℕ) → m ≡ 54 + n → head_of CRID m ++ (name_table name ++ zeros (padding m)) ≡ head ++ (table ++ (cell ++ (column ++ (name ++ pads))))
  unfolding name_table table_with
  sized m e = rw e (simp append_assoc)

  name_laid : name_block ≡ head ++ (table ++ (cell ++ (column ++ (name ++ pads))))
  unfolding block_of
  name_laid = sized (length (name_table name)) table_size

  pub name_length_lem : length name_block ≡ 86 + n + padding (54 + n)
  name_length_lem = block_length CRID (name_table name) ∙ rw table_size (omega arith)

  table_head_length : length table ≡ 37
  unfolding table_head
  table_head_length = refl

  pub name_stands : (c : List ℕ) → stands_at name_block c 0
      ≡ (stands_at head c 0 && (stands_at table c 0x20 && (stands_at cell c 69 && (stands_at column c 77 && (stands_at name c 86 && stands_at pads c (86 + n))))))
  name_stands c =
      ap (λ (l : List ℕ). stands_at l c 0) name_laid
      ∙ then head (table ++ (cell ++ (column ++ (name ++ pads)))) c 0 0x20 _ (omega (arith, head_length CRID (54 + n)))
      (then table (cell ++ (column ++ (name ++ pads))) c 0x20 69 _ (omega (arith, table_head_length))
      (then cell (column ++ (name ++ pads)) c 69 77 _ refl (then column (name ++ pads) c 77 86 _ refl (then name pads c 86 (86 + n) _ refl refl))))

-- ---- all of it

shuffle : (x m e l : Bool) → ((x && m && e) && l) ≡ (x && (m && (e && l)))
shuffle true true e l = refl
shuffle true false e l = refl
shuffle false m e l = refl

some_ends : (t : Bool) → 0 < cond t 0x80 0x40
some_ends true = omega arith
some_ends false = omega arith

module _ (c name : List ℕ) (packing : Packing) (k : packing.key ≡ None) (rest : List ℕ) (h : header name packing ≡ name_block name ++ rest) (last : List ℕ) (l : last ≡ ends packing) (first start : ℕ)
    (f : first ≡ 86 + length name + padding (54 + length name)) (s : start ≡ first + length rest) (turns : Turns)
    (t : turns ≡ turns_by (read_in New packing.audio (drop start c))) (within : turns.end ≤ length (drop start c)) where
  first_is : length (name_block name) ≡ first
  first_is = name_length_lem name ∙ sym f

  start_is : length (header name packing) ≡ start
  start_is = ap length h ∙ length-append (name_block name) rest ∙ omega (arith, first_is, s)

  abbrev R : Read
  R = read_in New packing.audio (drop start c)

  abbrev T : List ℕ
  T = chunks_of New R.video R.audio

  T-there : drop start c ≡ T ++ drop R.end (drop start c)
  T-there = read_whole New packing.audio (drop start c)

  T-stands : stands_at T c start ≡ true
  T-stands = stands_front T c start ∙ ap (front T) T-there ∙ front_self T (drop R.end (drop start c))

  T-length : length T ≡ turns.end
  T-length =
      omega (arith, ap length T-there, length-append T (drop R.end (drop start c)), length-drop R.end (drop start c), ap (λ (u : Turns). u.end) t, within)

  abbrev whole : List ℕ
  whole = header name packing ++ (T ++ last)

  abbrev end : ℕ
  end = start + turns.end

  header_stands : stands_at (header name packing) c 0 ≡ (stands_at (name_block name) c 0 && stands_at rest c first)
  header_stands = ap (λ (l : List ℕ). stands_at l c 0) h ∙ then (name_block name) rest c 0 first _ (omega (arith, first_is)) refl

  pieces : stands_at whole c 0 ≡ (stands_at (name_block name) c 0 && stands_at rest c first && stands_at last c end)
  pieces =
      then (header name packing) (T ++ last) c 0 start (stands_at last c end) (omega (arith, start_is))
      (then T last c start end _ (omega (arith, T-length)) refl ∙ ap (λ (u : Bool). u && stands_at last c end) T-stands)
      ∙ ap (λ (u : Bool). u && stands_at last c end) header_stands

  whole_length : length whole ≡ end + length last
  whole_length = length-append (header name packing) (T ++ last) ∙ omega (arith, length-append T last, start_is, T-length)

  -- all that is compared
  abbrev pub stands : Bool
  stands = stands_at (name_block name) c 0 && (stands_at rest c first && (stands_at last c end && eqb (length c - end) (length last)))

  same_is : same_bytes c (film_bytes name R.video R.audio packing) ≡ stands
  same_is =
      ap (same_bytes c) (film_laid name packing k R.video R.audio ∙ ap (λ (e : List ℕ). header name packing ++ (T ++ e)) (sym l)) ∙ same_front c whole
      ∙ ap₂ (λ (u w : Bool). u && w) pieces
      (ap (eqb (length c)) whole_length ∙ closing (length c) end (length last) (rw (l, ends_length packing.audio) (some_ends packing.audio)))
      ∙ shuffle (stands_at (name_block name) c 0) (stands_at rest c first) (stands_at last c end) (eqb (length c - end) (length last))

  pub found : (u : Bool) → (is_utf8 name && stands) ≡ u
      → cond u (Some (record { name = length name; packing = packing; start = start; turns = turns })) None ≡ found_as c (parts_from c name packing)
  found u g =
      ap₂ (λ (w : Bool) (m : Turns). cond w (Some (record { name = length name; packing = packing; start = start; turns = m })) None)
      (sym g ∙ ap (λ (w : Bool). is_utf8 name && w) (sym same_is)) t
      ∙ ap (λ (p : ℕ). found_as c (parts_at c name packing p)) (sym start_is)
