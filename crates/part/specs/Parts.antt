-- A part of a slice: in which slice it lies, where it starts there, and its bytes.
use Rattle.std.specs.Prelude.{ℕ, ◌+◌, ◌≡◌, List, [], cond, length, take, drop, leb}
use Rattle.std.specs.Borrow.{Bor}

-- `len` bytes from a start on; none where the slice does not hold that much
abbrev pub part_at : List ℕ → ℕ → ℕ → List ℕ
part_at bytes start len = cond (leb (start + len) (length bytes)) (take len (drop start bytes)) []

-- where this part starts: a slice that does not hold that much gives its empty part at byte 0
abbrev pub part_start : List ℕ → ℕ → ℕ → ℕ
part_start bytes start len = cond (leb (start + len) (length bytes)) start 0

-- r is a part of the slice s: it lies in the same memory, starts at byte `start` of s, and holds these bytes
abbrev pub IsPart : Bor (List ℕ) → ℕ → List ℕ → Bor (List ℕ) → Type 0
IsPart s start bytes r = (r.ref_ptr.0 ≡ s.ref_ptr.0) × (r.ref_ptr.1 ≡ start + s.ref_ptr.1) × (r.now ≡ bytes)

-- r is the part of s that has `len` bytes from a start on
abbrev pub PartAt : Bor (List ℕ) → ℕ → ℕ → Bor (List ℕ) → Type 0
PartAt s start len r = IsPart s (part_start s.now start len) (part_at s.now start len) r
