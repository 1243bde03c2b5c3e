-- Digits ask for no quotes, so a cell that is no string is written as it is; and how long the field of a cell is. Assumes nothing.
use Rattle.std.specs.Prelude.{Result, Ok, Err}
use Rattle.refusal.specs.declared.Cause.{Cause}
use mathlib.Core.Path.{◌≡◌, refl, sym, ap, ◌∙◌}
use mathlib.Core.List.{List, [], ◌∷◌, ◌++◌}
use mathlib.Core.Bool.{Bool, true, false, cond, ◌&&◌}
use Prim.Native.Nat.{ℕ, zero, suc, ◌+◌, ◌-◌, ◌*◌, ◌/◌, ◌%◌, ◌≤◌, ◌<◌, min}
use native.Mathlib.Omega.{arith}
use lib.ListN.{length, take, drop, length-take, length-drop}
use lib.Dec.{ltb, leb}
use lib.IntN.{ℤ, pos, negsuc}
use lib.Ieee.{binary32, to_bits}
use borrow.Author.Tests.{ne_eqb}
use Rattle.io.specs.Digits.{hex_digit_ascii}
use Rattle.part.specs.Parts.{part_at}
use Rattle.text.specs.Numbers.{digits_for, decimal, hex, hex_bytes}
use Rattle.text.proofs.NumberLaws.{decimal_fits, hex_fits}
use Rattle.cell.specs.declared.Cell.{Cell}
use Rattle.cell.specs.declared.Cell.TheVariants.{Nothing, Unsigned, Signed, Float, NotANumber, Text, Data}
use Rattle.cell.specs.CellNumbers.{value_of, length_of}
use Rattle.cell.specs.CellParts.{start_of}
use Rattle.csv_text.specs.Written.{is_mark, is_quoted, field_of}
use Rattle.csv_text.proofs.LengthLaws.{plain_field, plain_append, field_length}
use Rattle.table_csv.specs.Texts.{signed_text, text_of, text_in}

-- ---- digits are plain text

high_plain : (x : ℕ) → 0x2C < x → is_mark x ≡ false
high_plain x h = rw (ne_eqb x 0x22 (λ e. omega arith), ne_eqb x 0x2C (λ e. omega arith), ne_eqb x 0x0D (λ e. omega arith), ne_eqb x 0x0A (λ e. omega arith))

glyph_high : (d : ℕ) → 0x2C < hex_digit_ascii d
glyph_high d = go (ltb d 10)
  where
    go : (t : Bool) → 0x2C < cond t (48 + d) (87 + d)
    go true = omega arith
    go false = omega arith

high_more : (x : ℕ) (xs : List ℕ) → 0x2C < x → is_quoted xs ≡ false → is_quoted (x ∷ xs) ≡ false
unfolding is_quoted
high_more x xs h e = rw (high_plain x h) e

none_plain : is_quoted [] ≡ false
unfolding is_quoted
none_plain = refl

glyph_plain : (d : ℕ) → is_quoted (hex_digit_ascii d ∷ []) ≡ false
glyph_plain d = high_more (hex_digit_ascii d) [] (glyph_high d) none_plain

digits_plain : (base k least n : ℕ) → is_quoted (digits_for base k least n) ≡ false
unfolding digits_for
digits_plain base zero least n = none_plain
digits_plain base (suc k) least n = go (ltb n base && leb least 1) (digits_plain base k (least - 1) (n / base))
  where
    go : (t : Bool) → is_quoted (digits_for base k (least - 1) (n / base)) ≡ false
        → is_quoted (cond t (hex_digit_ascii n ∷ []) (digits_for base k (least - 1) (n / base) ++ (hex_digit_ascii (n % base) ∷ []))) ≡ false
    go true front = glyph_plain n
    go false front = plain_append (digits_for base k (least - 1) (n / base)) (hex_digit_ascii (n % base) ∷ []) front (glyph_plain (n % base))

decimal_plain : (n : ℕ) → is_quoted (decimal n) ≡ false
unfolding decimal
decimal_plain n = digits_plain 10 20 1 n

hex_plain : (width n : ℕ) → is_quoted (hex width n) ≡ false
unfolding hex
hex_plain width n = digits_plain 16 16 (min width 16) n

hex_bytes_plain : (bytes : List ℕ) → is_quoted (hex_bytes bytes) ≡ false
unfolding hex_bytes
hex_bytes_plain [] = none_plain
hex_bytes_plain (x ∷ bytes) =
    high_more (hex_digit_ascii (x / 16)) (hex_digit_ascii (x % 16) ∷ hex_bytes bytes) (glyph_high (x / 16)) (high_more (hex_digit_ascii (x % 16)) (hex_bytes bytes) (glyph_high (x % 16)) (hex_bytes_plain bytes))

signed_plain : (z : ℤ) → is_quoted (signed_text z) ≡ false
unfolding signed_text
signed_plain (pos n) = decimal_plain n
signed_plain (negsuc k) = high_more 0x2D (decimal (k + 1)) (omega arith) (decimal_plain (k + 1))

-- ---- the field of each cell

module _ (b : List ℕ) (cell : Cell) where
  as_it_is : (text : List ℕ) → text_of b cell ≡ text → is_quoted text ≡ false → text ≡ field_of (text_of b cell)
  as_it_is text e plain = sym (plain_field text plain) ∙ ap field_of (sym e)

  pub nothing_field : cell ≡ Nothing → [] ≡ field_of (text_of b cell)
  unfolding text_of
  nothing_field e = as_it_is [] (rw e) none_plain

  pub unsigned_field : (n : ℕ) → cell ≡ Unsigned n → decimal n ≡ field_of (text_of b cell)
  unfolding text_of
  unsigned_field n e = as_it_is (decimal n) (rw e) (decimal_plain n)

  pub signed_field : {z : ℤ} (y : ℤ) → cell ≡ Signed z → y ≡ z → signed_text y ≡ field_of (text_of b cell)
  unfolding text_of
  signed_field y e f = as_it_is (signed_text y) (rw (f, e)) (signed_plain y)

  pub float_field : {x : _} (v : ℕ) → cell ≡ Float x → v ≡ value_of cell → hex 8 v ≡ field_of (text_of b cell)
  unfolding text_of
  float_field v e f = as_it_is (hex 8 v) (rw (f, e)) (hex_plain 8 v)

  pub nan_field : {bits : ℕ} (v : ℕ) → cell ≡ NotANumber bits → v ≡ value_of cell → hex 8 v ≡ field_of (text_of b cell)
  unfolding text_of
  nan_field v e f = as_it_is (hex 8 v) (rw (f, e)) (hex_plain 8 v)

  pub text_field : {start len : ℕ} (part : List ℕ) → cell ≡ Text start len → part ≡ part_at b (start_of cell) (length_of cell) → field_of part ≡ field_of (text_of b cell)
  unfolding text_of
  text_field part e f = rw (f, e)

  pub data_field : {start len : ℕ} (part : List ℕ) → cell ≡ Data start len → part ≡ part_at b (start_of cell) (length_of cell) → hex_bytes part ≡ field_of (text_of b cell)
  unfolding text_of
  data_field part e f = as_it_is (hex_bytes part) (rw (f, e)) (hex_bytes_plain part)

pub refused_field : [] ≡ field_of []
refused_field = sym (plain_field [] none_plain)

-- ---- how long a field is

part_short : (b : List ℕ) (start len : ℕ) → length (part_at b start len) ≤ length b
part_short b start len = go (leb (start + len) (length b))
  where
    go : (t : Bool) → length (cond t (take len (drop start b)) []) ≤ length b
    go true = simp (length-take, length-drop) (omega arith)
    go false = omega arith

hex_bytes_length : (bytes : List ℕ) → length (hex_bytes bytes) ≡ 2 * length bytes
unfolding hex_bytes
hex_bytes_length [] = refl
hex_bytes_length (x ∷ bytes) = let more = hex_bytes_length bytes in omega arith

signed_short : (z : ℤ) → length (signed_text z) ≤ 21
unfolding signed_text
signed_short (pos n) = omega (arith, decimal_fits n)
signed_short (negsuc k) = omega (arith, decimal_fits (k + 1))

module _ (b : List ℕ) where
  -- two bytes for each of the body at most
  cell_short : (c : Cell) → length (field_of (text_of b c)) ≤ 2 * length b + 44
  unfolding text_of
  cell_short Nothing = omega (arith, field_length [])
  cell_short (Unsigned n) = omega (arith, field_length (decimal n), decimal_fits n)
  cell_short (Signed z) = omega (arith, field_length (signed_text z), signed_short z)
  cell_short (Float x) = omega (arith, field_length (hex 8 (to_bits binary32 x)), hex_fits 8 (to_bits binary32 x))
  cell_short (NotANumber bits) = omega (arith, field_length (hex 8 bits), hex_fits 8 bits)
  cell_short (Text start len) = omega (arith, field_length (part_at b start len), part_short b start len)
  cell_short (Data start len) =
      let e = ap length (plain_field (hex_bytes (part_at b start len)) (hex_bytes_plain (part_at b start len))) in
      omega (arith, hex_bytes_length (part_at b start len), part_short b start len)

  pub field_short : (x : Result Cell Cause) → length (field_of (text_in b x)) ≤ 2 * length b + 44
  field_short (Ok c) = cell_short c
  field_short (Err why) = omega (arith, field_length [])
