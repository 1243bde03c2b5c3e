-- What a header that is read promises. It is proved under the same name in proofs/Promises.antt.
use Rattle.std.specs.Prelude.{ℕ, ◌+◌, ◌≤◌, ◌≡◌, List, length, Some, Ok}
use Rattle.reading.specs.declared.Reading.{Reading}
use Rattle.header.specs.declared.Header.{Header}
use Rattle.header.specs.Headers.{header_of}

-- A name that is a part of the container lies within it.
abbrev pub NameLiesWithin : Type 0
NameLiesWithin =
    (container : List ℕ) (how : Reading) (header : Header) (start len : ℕ) → header_of container how ≡ Ok header → header.name ≡ Some (record { start = start; len = len }) → start + len ≤ length container
