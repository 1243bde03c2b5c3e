-- A codec's cell holds the low 32 bits of its number, so that a film is the same with those alone. Assumes nothing.
use Rattle.std.specs.Prelude.{Option, Some, None}
use Prim.Native.Nat.{ℕ, ◌/◌, ◌%◌, ◌^◌}
use mathlib.Core.Path.{◌≡◌, refl, sym, ap, ◌∙◌}
use mathlib.Core.List.{List, ◌++◌}
use mathlib.Core.Bool.{Bool}
use native.Mathlib.Omega.{arith}
use Rattle.signature.specs.Signatures.{mpeg_codec, audio_codec}
use Rattle.write_blocks.specs.Tables.{codec_table}
use Rattle.write_plan.specs.Films.{header_blocks, film_bytes}
use Rattle.write_plan.specs.Planning.{is_given, planned_of}
use Rattle.promises_write.specs.Promises.{CodecFits}
use Rattle.turns.specs.declared.Form.TheVariants.{New}
use Rattle.turns.specs.Turns.{chunks_of}
use Rattle.moved_film.proofs.FilmLaws.{header, ends, film_laid}
use Rattle.film_move.specs.FromOld.{packing_of}

abbrev pub low : Option ℕ → Option ℕ
low (Some n) = Some (n % 2 ^ 32)
low None = None

pub low_fits : (codec : Option ℕ) → CodecFits (low codec)
low_fits (Some n) = omega arith
low_fits None = tt

low_given : (codec : Option ℕ) → is_given (low codec) ≡ is_given codec
low_given (Some n) = refl
low_given None = refl

low_table : (column : List ℕ) (codec : Option ℕ) → codec_table column (low codec) ≡ codec_table column codec
unfolding codec_table
low_table column (Some n) =
    let a : n % 2 ^ 32 / 2 ^ 24 % 2 ^ 8 ≡ n / 2 ^ 24 % 2 ^ 8 = omega arith in
    let b : n % 2 ^ 32 / 2 ^ 16 % 2 ^ 8 ≡ n / 2 ^ 16 % 2 ^ 8 = omega arith in
    let c : n % 2 ^ 32 / 2 ^ 8 % 2 ^ 8 ≡ n / 2 ^ 8 % 2 ^ 8 = omega arith in
    let d : n % 2 ^ 32 % 2 ^ 8 ≡ n % 2 ^ 8 = omega arith in
    rw (a, b, c, d)
low_table column None = refl

module _ (name video sound : List ℕ) (audio : Bool) (mpeg other : Option ℕ) where
  low_header : header name (packing_of audio (low mpeg) (low other)) ≡ header name (packing_of audio mpeg other)
  unfolding header_blocks
  low_header = rw (low_table mpeg_codec mpeg, low_table audio_codec other)

  pub low_film : film_bytes name video sound (packing_of audio (low mpeg) (low other)) ≡ film_bytes name video sound (packing_of audio mpeg other)
  low_film =
      film_laid name (packing_of audio (low mpeg) (low other)) refl video sound
      ∙ ap (λ (l : List ℕ). l ++ (chunks_of New video sound ++ ends (packing_of audio mpeg other))) low_header
      ∙ sym (film_laid name (packing_of audio mpeg other) refl video sound)

  pub low_plan : planned_of name video sound (packing_of audio (low mpeg) (low other)) ≡ planned_of name video sound (packing_of audio mpeg other)
  unfolding planned_of
  low_plan = rw (low_given other, low_film)
