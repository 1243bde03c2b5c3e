-- The lines that the rules print of example F, and that of F cut to 300 bytes, by computation. Assumes nothing.
use mathlib.Core.Path.{◌≡◌, refl}
use mathlib.Core.List.{[], ◌∷◌}
use Rattle.refusal.specs.declared.Cause.TheVariants.{RanOut}
use Rattle.chunk.specs.declared.Kind.TheVariants.{Video, End}
use Rattle.walk.specs.Walks.{joined}
use Rattle.text.specs.Numbers.{digits_for, decimal}
use Rattle.chunk_lines.specs.Lines.{number_then, line_of, lines_of, refusal_line}

-- `320 video 0 32 0` LF `384 end 0 0 0` LF
two_lines : lines_of (record { start = 320; kind = Video; channel = 0; data_type = 0; payload = 352; len = 32; next = 384 } ∷ record { start = 384; kind = End; channel = 0; data_type = 0; payload = 416; len = 0; next = 448 } ∷ [])
    ≡ 51 ∷ 50 ∷ 48 ∷ 32 ∷ 118 ∷ 105 ∷ 100 ∷ 101 ∷ 111 ∷ 32 ∷ 48 ∷ 32 ∷ 51 ∷ 50 ∷ 32 ∷ 48 ∷ 10 ∷ 51 ∷ 56 ∷ 52 ∷ 32 ∷ 101 ∷ 110 ∷ 100 ∷ 32 ∷ 48 ∷ 32 ∷ 48 ∷ 32 ∷ 48 ∷ 10 ∷ []
unfolding digits_for decimal joined number_then line_of
two_lines = refl

-- `refused 1 at 256` LF
cut : refusal_line (record { cause = RanOut; place = 256 }) ≡ 114 ∷ 101 ∷ 102 ∷ 117 ∷ 115 ∷ 101 ∷ 100 ∷ 32 ∷ 49 ∷ 32 ∷ 97 ∷ 116 ∷ 32 ∷ 50 ∷ 53 ∷ 54 ∷ 10 ∷ []
unfolding digits_for decimal number_then refusal_line
cut = refl
