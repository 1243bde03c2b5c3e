-- The audio mask, byte by byte. Assumes nothing.
use mathlib.Core.Path.{◌≡◌, refl, sym, ap, ◌∙◌}
use mathlib.Core.List.{List, ◌++◌}
use Prim.Native.Nat.{ℕ, ◌+◌, ◌*◌, ◌-◌, ◌%◌, ◌≤◌, ◌<◌}
use native.Mathlib.Omega.{arith}
use lib.ListN.{length, take, drop}
use lib.Bits.{bit_xor}
use borrow.Author.Tests.{lt-ltb, le-ltb}
use Rattle.laws.specs.Lists.{tab, at}
use Rattle.laws.proofs.TabLaws.{tab_length, tab_at}
use Rattle.laws.proofs.SpliceLaws.{part_at_lem, part_length}
use Rattle.laws.proofs.UptoLaws.{upto_start, upto_part, upto_end}
use Rattle.mask.specs.Rows.{xored_rows}
use Rattle.mask.specs.Audio.{audio_at}

pub audio_before : (a s : List ℕ) (p : ℕ) → p < 0x140 → at s p ≡ audio_at a s p
unfolding audio_at
audio_before a s p h = rw (lt-ltb p 0x140 h)

pub audio_after_lem : (a s : List ℕ) (p : ℕ) → 0x140 ≤ p → audio_at a s p ≡ bit_xor (at s p) (at a (p % 0x20))
unfolding audio_at
audio_after_lem a s p h = rw (le-ltb p 0x140 h)

-- ---- rows XORed with A, lane by lane

abbrev pub rows_at : List ℕ → List ℕ → ℕ → ℕ
rows_at a s p = bit_xor (at s p) (at a (p % 0x20))

pub rows_row : (a s : List ℕ) (r lane : ℕ) → lane < 0x20 → bit_xor (at s (r * 0x20 + lane)) (at a lane) ≡ rows_at a s (r * 0x20 + lane)
rows_row a s r lane h =
    let e : (r * 0x20 + lane) % 0x20 ≡ lane = omega arith in
    rw e

pub rows_length : (a s : List ℕ) → length (xored_rows a s) ≡ length s
unfolding xored_rows
rows_length a s = tab_length (rows_at a s) (length s)

pub rows_at_lem : (a s : List ℕ) (p : ℕ) → p < length s → at (xored_rows a s) p ≡ rows_at a s p
unfolding xored_rows
rows_at_lem a s p h = tab_at (rows_at a s) (length s) p h

-- a payload whose rows from 0x140 on are XORed
pub audio_tail : (a s y : List ℕ) → 0x140 ≤ length s → y ≡ xored_rows a (take (length s - 0x140) (drop 0x140 s))
    → take 0x140 s ++ (y ++ drop (length s - 0x140) (drop 0x140 s)) ≡ tab (audio_at a s) (length s)
audio_tail a s y h e =
    let rest = take (length s - 0x140) (drop 0x140 s) in
    let n : length rest ≡ length s - 0x140 = part_length s 0x140 (length s) (omega arith) in
    upto_end (audio_at a s) s _ (length s) (length s)
    (upto_part (audio_at a s) s s y 0x140 0x140 (length s) (upto_start _ _ 0x140 (λ p l. audio_before a s p l)) (omega arith) h (omega arith)
    (ap length e ∙ rows_length a rest ∙ n)
    (λ j l.
    let q : (0x140 + j) % 0x20 ≡ j % 0x20 = omega arith in
    ap (λ (z : List ℕ). at z j) e ∙ rows_at_lem a rest j (omega arith) ∙ ap (λ (z : ℕ). bit_xor z (at a (j % 0x20))) (part_at_lem s 0x140 (length s) j l)
    ∙ sym (audio_after_lem a s (0x140 + j) (omega arith) ∙ rw q)))
    refl (omega arith)
