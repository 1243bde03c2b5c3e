-- The cases of a chunk, one for each return of the code, in the order of the refusals. Assumes nothing.
use Rattle.std.specs.Prelude.{Some, None, Ok}
use mathlib.Core.Path.{◌≡◌}
use mathlib.Core.List.{List}
use mathlib.Core.Bool.{true, false}
use Prim.Native.Nat.{ℕ, ◌+◌, ◌-◌, ◌≤◌, ◌<◌}
use native.Mathlib.Omega.{arith}
use lib.ListN.{length}
use borrow.Author.Tests.{eq-eqb, ne_eqb, lt-ltb, le-ltb}
use Rattle.refusal.specs.declared.Cause.TheVariants.{RanOut, TooSmall, ShortHeader}
use Rattle.reading.specs.declared.PayloadMode.{PayloadMode}
use Rattle.reading.specs.declared.Applied.{Applied}
use Rattle.word.specs.Numbers.{be32}
use Rattle.signature.specs.Signatures.{SFV, SFA, contents_end, stands_at}
use Rattle.chunk.specs.declared.Kind.TheVariants.{Video, Audio, Other, End}
use Rattle.chunk.specs.declared.Opening.{Opening}
use Rattle.chunk.specs.Openings.{kind_at, opening_at}
use Rattle.chunk.specs.Chunks.{is_taken, offset_of, is_short, chunk_of, refused_at, ended_at, held_at, taken_at, opened_at, chunk_at}

module _ (container : List ℕ) (c : ℕ) where
  pub marked : stands_at contents_end container (c + 0x20) ≡ true → End ≡ kind_at container c
  unfolding kind_at
  marked e = rw e

  -- the letters as they were read
  module _ (unmarked : stands_at contents_end container (c + 0x20) ≡ false) (letters : ℕ) (read : letters ≡ be32 container c) where
    pub video : letters ≡ SFV → Video ≡ kind_at container c
    unfolding kind_at
    video e = rw (unmarked, ← read, eq-eqb letters SFV e)

    module _ (no_video : letters ≡ SFV → ⊥) where
      pub audio : letters ≡ SFA → Audio ≡ kind_at container c
      unfolding kind_at
      audio e = rw (unmarked, ← read, ne_eqb letters SFV no_video, eq-eqb letters SFA e)

      pub other : (letters ≡ SFA → ⊥) → Other ≡ kind_at container c
      unfolding kind_at
      other f = rw (unmarked, ← read, ne_eqb letters SFV no_video, ne_eqb letters SFA f)

-- n is the length that the sizes say
module _ (total : ℕ) (c : ℕ) (opening : Opening) (offset : ℕ) where
  pub too_small : opening.block < opening.header + opening.footer → refused_at c TooSmall ≡ held_at total c opening offset
  unfolding held_at
  too_small h = rw (lt-ltb _ _ h)

  module _ (large : opening.header + opening.footer ≤ opening.block) where
    abbrev n : ℕ
    n = opening.block - (opening.header + opening.footer)

    pub ran_out : total < c + offset + n → refused_at c RanOut ≡ held_at total c opening offset
    unfolding held_at
    ran_out h = rw (le-ltb _ _ large, lt-ltb total (c + offset + n) h)

    pub present : c + offset + n ≤ total → Ok (Some (chunk_of c opening offset n)) ≡ held_at total c opening offset
    unfolding held_at
    present h = rw (le-ltb _ _ large, le-ltb total (c + offset + n) h)

module _ (total : ℕ) (mode : PayloadMode) (c : ℕ) (opening : Opening) where
  pub short : is_short mode opening ≡ true → refused_at c ShortHeader ≡ taken_at total mode c opening
  unfolding taken_at
  short e = rw e

  pub held : is_short mode opening ≡ false → (offset : ℕ) → offset ≡ offset_of mode opening → held_at total c opening offset ≡ taken_at total mode c opening
  unfolding taken_at
  held e offset q = rw (e, q)

module _ (total : ℕ) (reading : Applied) (c : ℕ) where
  pub taken : (opening : Opening) → is_taken reading opening.kind opening.channel ≡ true → taken_at total reading.payloads c opening ≡ opened_at total reading c opening
  unfolding opened_at
  taken opening e = rw e

  pub skipped : (opening : Opening) → is_taken reading opening.kind opening.channel ≡ false → Ok (Some (chunk_of c opening 0x20 0)) ≡ opened_at total reading c opening
  unfolding opened_at
  skipped opening e = rw e

module _ (container : List ℕ) (reading : Applied) (c : ℕ) where
  pub over : length container - c < 4 → (Ok None) ≡ chunk_at container reading c
  unfolding chunk_at
  over h = rw (lt-ltb _ _ h)

  pub cut : 4 ≤ length container - c → length container - c < 45 → refused_at c RanOut ≡ chunk_at container reading c
  unfolding chunk_at
  cut g h = rw (le-ltb _ _ g, lt-ltb _ _ h)

  pub ended : length container - c < 45 → ended_at (length container - c) c ≡ chunk_at container reading c
  unfolding chunk_at
  ended h = rw (lt-ltb _ _ h)

  pub opened : 45 ≤ length container - c → opened_at (length container) reading c (opening_at container c) ≡ chunk_at container reading c
  unfolding chunk_at
  opened h = let g : 4 ≤ length container - c = omega arith in rw (le-ltb _ _ g, le-ltb _ _ h)
