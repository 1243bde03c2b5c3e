-- A block of s is the same in s with more behind it, and is refused alike, unless the bytes of s run out. Assumes nothing.
use Rattle.std.specs.Prelude.{Result, Ok, Err}
use Rattle.cell.specs.declared.Cell.{Cell}
use Rattle.refusal.specs.declared.Refusal.{Refusal}
use Rattle.layout.specs.declared.Layout.{Layout}
use Prim.Native.Nat.{ℕ, ◌+◌, ◌-◌, ◌≤◌, ◌<◌}
use mathlib.Core.Path.{◌≡◌, refl, ap, subst}
use mathlib.Core.List.{List, ◌++◌}
use mathlib.Core.Bool.{Bool, true, false, not, cond}
use mathlib.Core.Logic.{⊎_elim}
use native.Mathlib.Omega.{arith}
use lib.ListN.{length, drop, length-drop}
use lib.Dec.{ltb, eqb}
use borrow.Author.Tests.{lt-ltb, le-ltb, ltb-true, ltb-false}
use Rattle.laws.proofs.Side.{side}
use Rattle.word.specs.Numbers.{be32}
use Rattle.refusal.specs.declared.Cause.{Cause}
use Rattle.refusal.specs.declared.Cause.TheVariants as cause
use Rattle.reading.specs.declared.TableMode.{TableMode}
use Rattle.reading.specs.declared.Reading.{Reading}
use Rattle.signature.specs.Signatures.{CRID, SFV, SFA, metadata_end, filename}
use Rattle.layout.specs.Layouts.{layout_in}
use Rattle.table.specs.Tables.{table_at}
use Rattle.lookup.specs.Lookups.{cell_of, last_cell_of}
use Rattle.block.specs.declared.CodecBlock.{CodecBlock}
use Rattle.block.specs.declared.NameBlock.{NameBlock}
use Rattle.block.specs.declared.Ahead.{Ahead}
use Rattle.block.specs.declared.Ahead.TheVariants.{Sound, Other}
use Rattle.block.specs.Blocks.{refused_at, head_at, marked_at, tabled, coded, named, and_then, then_codec, then_name, marker_block, table_block, codec_block, name_block, ahead_at, chunks_after, last_block}
use Rattle.block.proofs.BlockLaws.{ahead_cut}
use Rattle.header.specs.Headers.{by_ahead}
use Rattle.laws_prefix.specs.Needs.{is_laid, laid_at}
use Rattle.laws_prefix.proofs.ByteLaws.{longer, be32_kept, stands_kept}
use Rattle.laws_prefix.proofs.Settled.{Settled, cut_or, test_or, table_open, cell_open, block_open, codec_open, name_open, none}
use Rattle.laws_prefix.proofs.TableLaws.{table_settled, cell_settled, last_settled}

module _ (s : List ℕ) (m : TableMode) where
  -- where a block has no room for a table's first bytes, no table is there
  no_table : (t u : Bool) (why why' why'' : Cause) → is_laid (cond t (Err why) (cond u (Err why') (Err why''))) ≡ false
  no_table true u why why' why'' = refl
  no_table false true why why' why'' = refl
  no_table false false why why' why'' = refl

  pub unlaid : (p : ℕ) → length s - p < 0x40 → laid_at s m p ≡ false
  unfolding layout_in
  unlaid p h =
      let t = drop (p + 0x20) s in
      let few : length t < 32 = omega (arith, length-drop (p + 0x20) s) in
      rw (lt-ltb (length t) 32 few) (no_table (ltb (length t) 4) (not (eqb (be32 t 0) 0x40555446)) cause.RanOut cause.NoTable cause.RanOut)

module _ (s more : List ℕ) (how : Reading) where
  abbrev undecided : Result ℕ Refusal → Type 0
  undecided = block_open s how.tables

  -- bytes that run out leave the block open
  pub ran_out : (p k : ℕ) → k ≤ 0x40 → ltb (length s - p) k ≡ true → undecided (refused_at p cause.RanOut)
  ran_out p k h e = (refl, unlaid s how.tables p (omega (arith, ltb-true (length s - p) k e)))

  head_settled : (letters : ℕ) (missing : Cause) (p : ℕ) → Settled undecided (head_at s letters missing p) (head_at (s ++ more) letters missing p)
  unfolding head_at
  head_settled letters missing p =
      let n = longer s more in
      cut_or undecided (ltb (length s - p) 4) (ltb (length (s ++ more) - p) 4) (refused_at p cause.RanOut) _ _ (ran_out p 4 (omega arith))
      (λ e4.
      let four = ltb-false (length s - p) 4 e4 in (
        le-ltb (length (s ++ more) - p) 4 (omega (arith, n, four)),
        rw (be32_kept s more p (omega arith))
            (test_or undecided (not (eqb (be32 s p) letters)) (refused_at p missing) _ _
            (cut_or undecided (ltb (length s - p) 8) (ltb (length (s ++ more) - p) 8) (refused_at p cause.RanOut) _ _ (ran_out p 8 (omega arith))
            (λ e8.
            let eight = ltb-false (length s - p) 8 e8 in
            (le-ltb (length (s ++ more) - p) 8 (omega (arith, n, eight)), λ unless. ap (λ (size : ℕ). Ok (p + 8 + size)) (be32_kept s more (p + 4) (omega arith)))))),
      ))

  marked_settled : (marker : List ℕ) → 0x20 + length marker ≤ 0x40 → (unmarked : Cause) (p next : ℕ) → Settled undecided (marked_at s marker unmarked p next) (marked_at (s ++ more) marker unmarked p next)
  unfolding marked_at
  marked_settled marker room_for unmarked p next =
      let n = longer s more in
      cut_or undecided (ltb (length s - p) (0x20 + length marker)) (ltb (length (s ++ more) - p) (0x20 + length marker)) (refused_at p cause.RanOut) _ _ (ran_out p (0x20 + length marker) room_for)
      (λ e.
      let room = ltb-false (length s - p) (0x20 + length marker) e in
      (le-ltb (length (s ++ more) - p) (0x20 + length marker) (omega (arith, n, room)), λ unless. rw (stands_kept s more marker (p + 0x20) (omega arith))))

  -- a block goes on as its head does
  pub then_settled : (k k' : ℕ → Result ℕ Refusal) (x x' : Result ℕ Refusal) → Settled undecided x x' → ((next : ℕ) → Settled undecided (k next) (k' next)) → Settled undecided (and_then k x) (and_then k' x')
  then_settled k k' (Ok next) x' head rest unless = rw (head none) (rest next unless)
  then_settled k k' (Err refusal) x' head rest unless = ap (and_then k') (head unless)

  pub marker_settled : (letters : ℕ) (missing : Cause) (marker : List ℕ) → 0x20 + length marker ≤ 0x40 → (unmarked : Cause) (p : ℕ)
      → Settled undecided (marker_block s letters missing marker unmarked p) (marker_block (s ++ more) letters missing marker unmarked p)
  unfolding marker_block
  marker_settled letters missing marker room_for unmarked p = then_settled _ _ (head_at s letters missing p) _ (head_settled letters missing p) (marked_settled marker room_for unmarked p)

  pub last_block_settled : (p : ℕ) → Settled undecided (last_block s p) (last_block (s ++ more) p)
  unfolding last_block
  last_block_settled p =
      let n = longer s more in
      cut_or undecided (ltb (length s - p) 4) (ltb (length (s ++ more) - p) 4) (refused_at p cause.RanOut) _ _ (ran_out p 4 (omega arith))
      (λ e4.
      let four = ltb-false (length s - p) 4 e4 in (
        le-ltb (length (s ++ more) - p) 4 (omega (arith, n, four)),
        rw (be32_kept s more p (omega arith))
            (test_or undecided (not (eqb (be32 s p) SFV)) (refused_at p cause.NoVideo) _ _ (marked_settled metadata_end (omega arith) cause.NoMetadataEnd p (chunks_after p))),
      ))

  module _ (p : ℕ) where
    tabled_settled : (next : ℕ) (x x' : Result Layout Refusal) → Settled (table_open (laid_at s how.tables p)) x x' → Settled undecided (tabled p next x) (tabled p next x')
    tabled_settled next (Ok l) x' same unless = ap (tabled p next) (same none)
    tabled_settled next (Err refusal) x' same unless = ap (tabled p next) (same unless)

    pub table_block_settled : (letters : ℕ) (missing : Cause) → Settled undecided (table_block s how letters missing p) (table_block (s ++ more) how letters missing p)
    unfolding table_block
    table_block_settled letters missing =
        then_settled _ _ (head_at s letters missing p) _ (head_settled letters missing p)
        (λ next. tabled_settled next (table_at s (p + 0x20) how.tables) _ (table_settled s more (p + 0x20) how.tables))

    coded_settled : (next : ℕ) (x x' : Result Cell Refusal) → Settled (cell_open (laid_at s how.tables p)) x x' → Settled (codec_open s how.tables) (coded p next x) (coded p next x')
    coded_settled next (Ok cell) x' same unless = ap (coded p next) (same none)
    coded_settled next (Err refusal) x' same unless = ap (coded p next) (same unless)

    then_coded : (k k' : ℕ → Result CodecBlock Refusal) (x x' : Result ℕ Refusal) → Settled undecided x x' → ((next : ℕ) → Settled (codec_open s how.tables) (k next) (k' next)) → Settled (codec_open s how.tables) (then_codec k x) (then_codec k' x')
    then_coded k k' (Ok next) x' head rest unless = rw (head none) (rest next unless)
    then_coded k k' (Err refusal) x' head rest unless = ap (then_codec k') (head unless)

    pub codec_settled : (letters : ℕ) (missing : Cause) (column : List ℕ) → Settled (codec_open s how.tables) (codec_block s how letters missing column p) (codec_block (s ++ more) how letters missing column p)
    unfolding codec_block
    codec_settled letters missing column =
        then_coded _ _ (head_at s letters missing p) _ (head_settled letters missing p)
        (λ next. coded_settled next (cell_of s (p + 0x20) how.tables column 0) _ (cell_settled s more (p + 0x20) how.tables column 0))

  named_settled : (next : ℕ) (x x' : Result Cell Refusal) → Settled (cell_open (laid_at s how.tables 0)) x x' → Settled (name_open s how.tables) (named 0 next x) (named 0 next x')
  named_settled next (Ok cell) x' same unless = ap (named 0 next) (same none)
  named_settled next (Err refusal) x' same unless = ap (named 0 next) (same unless)

  then_named : (k k' : ℕ → Result NameBlock Refusal) (x x' : Result ℕ Refusal) → Settled undecided x x' → ((next : ℕ) → Settled (name_open s how.tables) (k next) (k' next)) → Settled (name_open s how.tables) (then_name k x) (then_name k' x')
  then_named k k' (Ok next) x' head rest unless = rw (head none) (rest next unless)
  then_named k k' (Err refusal) x' head rest unless = ap (then_name k') (head unless)

  pub name_settled : Settled (name_open s how.tables) (name_block s how) (name_block (s ++ more) how)
  unfolding name_block
  name_settled =
      then_named _ _ (head_at s CRID cause.NoFilm 0) _ (head_settled CRID cause.NoFilm 0)
      (λ next. named_settled next (last_cell_of s 0x20 how.tables filename) _ (last_settled s more 0x20 how.tables filename))

  -- ---- a look ahead goes the same way, where it is not cut

  -- four letters that are there are seen as they are
  ahead_kept : (p : ℕ) → 4 ≤ length s - p → ahead_at (s ++ more) p ≡ ahead_at s p
  unfolding ahead_at
  ahead_kept p h =
      let n = longer s more in
      rw (be32_kept s more p (omega arith), le-ltb (length (s ++ more) - p) 4 (omega arith), le-ltb (length s - p) 4 h)

  ahead_there : (p : ℕ) → 4 ≤ length s - p → ahead_at s p ≡ cond (eqb (be32 s p) SFA) Sound Other
  unfolding ahead_at
  ahead_there p h = rw (le-ltb (length s - p) 4 h)

  module _ {A : Type 0} (opened : A → Type 0) (sound other cut sound' other' cut' : A) (p : ℕ) (one : ltb (length s - p) 4 ≡ true → opened cut) where
    by_letters : (t : Bool) → Settled opened sound sound' → Settled opened other other'
        → Settled opened (by_ahead sound other cut (cond t Sound Other)) (by_ahead sound' other' cut' (cond t Sound Other))
    by_letters true first second = first
    by_letters false first second = second

    pub ahead_settled : Settled opened sound sound' → Settled opened other other'
        → Settled opened (by_ahead sound other cut (ahead_at s p)) (by_ahead sound' other' cut' (ahead_at (s ++ more) p))
    ahead_settled first second =
        ⊎_elim
        (λ (h : length s - p < 4). λ unless.
        absurd (unless (subst (λ (x : Ahead). opened (by_ahead sound other cut x)) (ahead_cut s p h) (one (lt-ltb (length s - p) 4 h)))))
        (λ (h : 4 ≤ length s - p). rw (ahead_kept p h, ahead_there p h) (by_letters (eqb (be32 s p) SFA) first second))
        (side (length s - p) 4)
