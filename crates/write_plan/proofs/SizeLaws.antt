-- How large sizes can be, so that no sum wraps, and that a film is at least as long as what it is made of. Assumes nothing.
use Rattle.std.specs.Prelude.{Option, Some, None}
use Prim.Native.Nat.{ℕ, ◌+◌, ◌-◌, ◌*◌, ◌%◌, ◌≤◌, ◌<◌}
use mathlib.Core.Path.{◌≡◌, refl}
use mathlib.Core.List.{List}
use mathlib.Core.Bool.{Bool, true, false, cond}
use mathlib.Core.Logic.{⊎_elim}
use native.Mathlib.Omega.{arith}
use lib.ListN.{length}
use borrow.Author.Tests.{eq-eqb, ne_eqb}
use Rattle.laws.proofs.Side.{side}
use Rattle.write_plan.specs.declared.Packing.{Packing}
use Rattle.write_plan.specs.Films.{film_bytes}
use Rattle.write_plan.specs.Sizes.{block_size, codec_size, frame_size, ends_size, header_size, last_size, stream_size, film_size}
use Rattle.write_plan.proofs.LengthLaws.{film_length}

pub codec_fits : (codec : Option ℕ) → codec_size codec ≤ 0x60
codec_fits (Some n) = omega arith
codec_fits None = omega arith

either_fits : (audio : Bool) (video other : ℕ) → video ≤ 0x60 → other ≤ 0x60 → cond audio (video + other + 8 * 0x40) (video + 4 * 0x40) ≤ 704
either_fits true video other h k = omega arith
either_fits false video other h k = omega arith

pub frame_fits : (packing : Packing) → frame_size packing ≤ 704
frame_fits packing =
    either_fits packing.audio (codec_size packing.mpeg_codec) (codec_size packing.audio_codec) (codec_fits packing.mpeg_codec) (codec_fits packing.audio_codec)

either_ends : (audio : Bool) (video other : ℕ) → ends_size audio ≤ cond audio (video + other + 8 * 0x40) (video + 4 * 0x40)
either_ends true video other = omega arith
either_ends false video other = omega arith

pub ends_fit : (packing : Packing) → ends_size packing.audio ≤ frame_size packing
ends_fit packing = either_ends packing.audio (codec_size packing.mpeg_codec) (codec_size packing.audio_codec)

pub header_is : (name : ℕ) (packing : Packing) → block_size (54 + name) + (frame_size packing - ends_size packing.audio) ≡ header_size name packing
unfolding header_size
header_is name packing = refl

pub last_fits : (n : ℕ) → (n ≤ last_size n) × (last_size n ≤ n + 63)
last_fits n =
    ⊎_elim (λ (h : n < 1). let z : n ≡ 0 = omega arith in rw (eq-eqb n 0 z) (omega arith))
    (λ (h : 1 ≤ n). rw (ne_eqb n 0 (λ e. omega arith)) (omega arith)) (side n 1)

pub stream_fits : (n : ℕ) → (n ≤ stream_size n) × (stream_size n ≤ 2 * n + 0x40)
unfolding stream_size
stream_fits n = let l = last_fits (n % 0x10000) in omega arith

-- a film holds its name and its streams
pub sizes_hold : (name video audio : ℕ) (packing : Packing)
    → (name ≤ film_size name video audio packing) × (video ≤ film_size name video audio packing) × (audio ≤ film_size name video audio packing)
unfolding film_size
sizes_hold name video audio packing =
    let v = stream_fits video in
    let a = stream_fits audio in
    omega arith

pub film_holds : (name video audio : List ℕ) (packing : Packing)
    → (length name ≤ length (film_bytes name video audio packing))
    × (length video ≤ length (film_bytes name video audio packing))
    × (length audio ≤ length (film_bytes name video audio packing))
film_holds name video audio packing = rw (film_length name video audio packing) (sizes_hold (length name) (length video) (length audio) packing)
