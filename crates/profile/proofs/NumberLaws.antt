-- The first rule that a chunk breaks by its numbers is the one which the container says. Assumes nothing.
use Prim.Native.Nat.{ℕ, ◌+◌}
use mathlib.Core.Path.{◌≡◌, refl}
use mathlib.Core.List.{List}
use Rattle.word.specs.Numbers.{be16, be32}
use Rattle.profile.specs.declared.Stream.{Stream}
use Rattle.profile.specs.Profiles.{broken_by, broken_in}

pub by_numbers : (container : List ℕ) (c letters : ℕ) (stream : Stream) → broken_in c (be16 container (c + 8)) (be32 container (c + 4)) letters stream ≡ broken_by container c letters stream
unfolding broken_by broken_in
by_numbers container c letters stream = refl
