-- A piece of a film that holds no payload, written by itself: where it is answered its output has room. Assumes nothing.
use Rattle.std.specs.Prelude.{Result, Ok}
use Rattle.refusal.specs.declared.Refusal.{Refusal}
use Prim.Native.Nat.{ℕ, ◌+◌, ◌≤◌, ◌<◌, ◌^◌}
use mathlib.Core.Path.{◌≡◌, sym, ◌∙◌}
use mathlib.Core.List.{List}
use native.Mathlib.Omega.{arith}
use lib.ListN.{length}
use Rattle.lent.specs.Written.{written_in}
use Rattle.lent.proofs.RoomLaws.{planned_so}
use Rattle.write_plan.specs.declared.Packing.{Packing}
use Rattle.write_plan.specs.Films.{bytes_of, header_blocks}
use Rattle.write_plan.specs.Sizes.{header_size}
use Rattle.write_plan.specs.Planning.{sized_of, headed_by}
use Rattle.write_plan.proofs.LengthLaws.{header_length}
use Rattle.write_plan.proofs.PlanLaws.{headed_so, sized_fits}

-- a piece of n bytes
pub piece_fits : (n size : ℕ) (answer : Result ℕ Refusal) (out : List ℕ) → answer ≡ written_in (length out) (Ok n) → answer ≡ Ok size → 0 + n ≤ length out
piece_fits n size answer out e f =
    let s = planned_so (length out) (Ok n) size (sym e ∙ f) in
    let k : n ≡ size = cc s.0 in
    omega (arith, s.1)

-- a header: so many bytes are planned of it, and its name is within the limit too
pub header_fits : (name : List ℕ) (video audio : ℕ) (packing : Packing) (planned answer : Result ℕ Refusal) (out : List ℕ) (size : ℕ)
    → planned ≡ headed_by (header_size (length name) packing) (sized_of (length name) video audio packing) → answer ≡ written_in (length out) planned → answer ≡ Ok size
    → (length (bytes_of (header_blocks name packing)) ≤ length out) × (length name < 2 ^ 31)
header_fits name video audio packing planned answer out size p e f =
    let s = planned_so (length out) planned size (sym e ∙ f) in
    let h = headed_so (header_size (length name) packing) (sized_of (length name) video audio packing) size (sym p ∙ s.0) in
    let fits : length name ≤ 0x40000000 = sized_fits (length name) video audio packing _ h.0 in
    (omega (arith, s.1, h.1, header_length name packing), omega arith)
