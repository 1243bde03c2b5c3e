-- What is read in a list and in the same list with more behind it agrees, an answer as well as a refusal, unless the bytes of the first run out. Assumes nothing.
use Rattle.std.specs.Prelude.{Result, Ok, Err}
use Rattle.header.specs.declared.Header.{Header}
use Rattle.cell.specs.declared.Cell.{Cell}
use Rattle.refusal.specs.declared.Refusal.{Refusal}
use Rattle.refusal.specs.declared.Cause.{Cause}
use Rattle.layout.specs.declared.Layout.{Layout}
use Prim.Native.Nat.{ℕ}
use mathlib.Core.Path.{◌≡◌, refl}
use mathlib.Core.List.{List}
use mathlib.Core.Bool.{Bool, true, false, cond}
use Rattle.refusal.specs.Numbers.{number_of}
use Rattle.reading.specs.declared.TableMode.{TableMode}
use Rattle.block.specs.declared.CodecBlock.{CodecBlock}
use Rattle.block.specs.declared.NameBlock.{NameBlock}
use Rattle.laws_prefix.specs.Needs.{Open}

-- by which answers are open: those that more bytes can change
abbrev pub Settled : {A : Type 0} → (A → Type 0) → A → A → Type 0
Settled undecided x y = (undecided x → ⊥) → y ≡ x

module _ {A : Type 0} (undecided : A → Type 0) where
  -- a test whose refusal is open, and that refuses no longer where it does not
  pub cut_or : (t t' : Bool) (out x x' : A) → (t ≡ true → undecided out) → (t ≡ false → (t' ≡ false) × Settled undecided x x') → Settled undecided (cond t out x) (cond t' out x')
  cut_or true t' out x x' one next unless = absurd (unless (one refl))
  cut_or false t' out x x' one next unless = rw (next refl).0 ((next refl).1 unless)

  -- a test that both make
  pub test_or : (t : Bool) (out x x' : A) → Settled undecided x x' → Settled undecided (cond t out x) (cond t out x')
  test_or true out x x' next unless = refl
  test_or false out x x' next unless = next unless

-- ---- the open answers: none that accepts

abbrev pub layout_open : Result Layout Cause → Type 0
layout_open (Ok l) = ⊥
layout_open (Err why) = number_of why ≡ 1

-- of a table that is there, or not
abbrev pub table_open : Bool → Result Layout Refusal → Type 0
table_open laid (Ok l) = ⊥
table_open laid (Err refusal) = (number_of refusal.cause ≡ 1) × (laid ≡ false)

abbrev pub cell_open : Bool → Result Cell Refusal → Type 0
cell_open laid (Ok cell) = ⊥
cell_open laid (Err refusal) = (number_of refusal.cause ≡ 1) × (laid ≡ false)

module _ (s : List ℕ) (m : TableMode) where
  abbrev pub block_open : Result ℕ Refusal → Type 0
  block_open (Ok next) = ⊥
  block_open (Err refusal) = Open s m refusal

  abbrev pub codec_open : Result CodecBlock Refusal → Type 0
  codec_open (Ok block) = ⊥
  codec_open (Err refusal) = Open s m refusal

  abbrev pub name_open : Result NameBlock Refusal → Type 0
  name_open (Ok block) = ⊥
  name_open (Err refusal) = Open s m refusal

  abbrev pub header_open : Result Header Refusal → Type 0
  header_open (Ok header) = ⊥
  header_open (Err refusal) = Open s m refusal

pub none : ⊥ → ⊥
none e = e
