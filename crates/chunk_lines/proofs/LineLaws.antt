-- How long the lines are: a line is the sum of its pieces, and a container of at most 16,384 bytes has few enough of them.
-- Chunks stand at least 8 bytes apart and a line has at most 24 bytes, so there are at most 3 bytes of text for one of the container. Assumes nothing.
use Rattle.std.specs.Prelude.{Some, Ok}
use mathlib.Core.Path.{◌≡◌, sym, ap, ◌∙◌}
use mathlib.Core.List.{List, [], ◌∷◌}
use Prim.Native.Nat.{ℕ, suc, ◌+◌, ◌-◌, ◌*◌, ◌^◌, ◌≤◌, ◌<◌}
use native.Mathlib.Nat.{zero-add}
use native.Mathlib.Omega.{arith}
use lib.ListN.{length, length-append}
use lib.Seq.{sets}
use Rattle.refusal.specs.declared.Refusal.{Refusal}
use Rattle.refusal.specs.Numbers.{number_of}
use Rattle.reading.specs.declared.Applied.{Applied}
use Rattle.chunk.specs.declared.Kind.{Kind}
use Rattle.chunk.specs.declared.Kind.TheVariants.{Video, Audio, Other, End}
use Rattle.chunk.specs.declared.Chunk.{Chunk}
use Rattle.chunk.specs.Openings.{Bytes}
use Rattle.chunk.specs.Chunks.{chunk_at}
use Rattle.chunk.proofs.FoundLaws.{found}
use Rattle.walk.specs.Walks.{walk_from, joined}
use Rattle.walk.proofs.WalkLaws.{every_walk}
use Rattle.walk.proofs.PutLaws.{Output, output}
use Rattle.text.specs.Numbers.{decimal}
use Rattle.laws.specs.Outputs.{Put}
use Rattle.text.proofs.NumberLaws.{decimal_short, decimal_fits}
use Rattle.chunk_lines.specs.Lines.{space, newline, number_then, kind_word, line_of, lines_of, refusal_line}

pub number_length : (after : List ℕ) (n : ℕ) → length (number_then after n) ≡ length (decimal n) + length after
unfolding number_then
number_length after n = length-append (decimal n) after

pub line_length_lem : (chunk : Chunk) → length (line_of chunk) ≡ length (number_then space chunk.start) + length (kind_word chunk.kind) + length (number_then space chunk.data_type) + length (number_then space chunk.len) + length (number_then newline chunk.channel)
unfolding line_of
line_length_lem chunk = simp length-append

refusal_length : (refusal : Refusal) → length (refusal_line refusal) ≡ 8 + length (number_then space (number_of refusal.cause)) + 3 + length (number_then newline refusal.place)
unfolding refusal_line
refusal_length refusal = simp length-append

-- any number has at most 20 digits
pub number_fits : (after : List ℕ) (n : ℕ) → length (number_then after n) ≤ 20 + length after
number_fits after n = omega (arith, number_length after n, decimal_fits n)

number_short : (after : List ℕ) (k n : ℕ) → n < 10 ^ suc k → length (number_then after n) ≤ suc k + length after
number_short after k n h = omega (arith, number_length after n, decimal_short k n h)

word_short : (kind : Kind) → length (kind_word kind) ≤ 6
word_short Video = omega arith
word_short Audio = omega arith
word_short Other = omega arith
word_short End = omega arith

-- of numbers below 100,000, a data type and a channel
line_short : (chunk : Chunk) → chunk.start < 100000 → chunk.data_type < 10 → chunk.len < 100000 → chunk.channel < 1000 → length (line_of chunk) ≤ 24
line_short chunk s t l n =
    omega (arith, line_length_lem chunk, number_short space 4 chunk.start s, word_short chunk.kind, number_short space 0 chunk.data_type t, number_short space 4 chunk.len l, number_short newline 2 chunk.channel n)

pub refusal_short : (refusal : Refusal) → length (refusal_line refusal) ≤ 53
refusal_short refusal = omega (arith, refusal_length refusal, number_fits space (number_of refusal.cause), number_fits newline refusal.place)

module _ (container : List ℕ) (reading : Applied) (bytes : Bytes container) (limit : length container ≤ 16384) where
  abbrev Short : ℕ → List Chunk → Type 0
  Short c chunks = length (lines_of chunks) ≤ 3 * (length container - c)

  none_short : (c : ℕ) → Short c []
  unfolding joined
  none_short c = omega arith

  one_more_short : (c : ℕ) (chunk : Chunk) (chunks : List Chunk) → chunk_at container reading c ≡ Ok (Some chunk) → Short chunk.next chunks → Short c (chunk ∷ chunks)
  unfolding joined
  one_more_short c chunk chunks e more =
      let w = found container reading c chunk e in
      let line = line_short chunk (omega arith) (omega arith) (omega arith) (omega (arith, bytes (c + 12))) in
      simp length-append (omega arith)

  pub lines_short : (c : ℕ) → length (lines_of (walk_from container reading c).chunks) ≤ 49152
  lines_short c = omega (arith, every_walk container reading Short none_short one_more_short c)

-- what a loop over chunks has put when it is over
pub put_whole : {bytes out after : List ℕ} {end : ℕ} → output end after ≡ output (length bytes) (sets out 0 bytes) → Put bytes out 0 after end
put_whole {bytes} e = record { ends = ap (λ (o : Output ℕ). o.end) e ∙ sym (zero-add (length bytes)); holds = ap (λ (o : Output ℕ). o.holds) e }
