-- The bytes from a place on, byte by byte. Assumes nothing.
use Rattle.std.proofs.Common.{◌≡◌, ℕ, ◌+◌, ◌<◌, ◌≤◌, List, length, get_or, drop, eqb, add-one, drop-cons, drop_of_length-le}
use Rattle.utf8.specs.declared.Due.{Due}
use Rattle.utf8.specs.Utf8.{due_next, utf8_from}

pub next_byte : (now : Due) (bytes : List ℕ) (i : ℕ) → i < length bytes → utf8_from (due_next now (get_or bytes i 0)) (drop (i + 1) bytes) ≡ utf8_from now (drop i bytes)
unfolding utf8_from
next_byte now bytes i h = rw (add-one, drop-cons bytes i 0 h)

pub no_byte : (now : Due) (bytes : List ℕ) (i : ℕ) → length bytes ≤ i → utf8_from now (drop i bytes) ≡ eqb now.more 0
unfolding utf8_from
no_byte now bytes i h = rw (drop_of_length-le bytes h)
