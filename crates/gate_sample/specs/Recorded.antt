-- The rules of the recorded answers: the bytes that each is given for, and the digest that stands for its own.
use Rattle.std.specs.Prelude.{ℕ, zero, suc, ◌+◌, ◌*◌, ◌/◌, ◌%◌, List, [], ◌∷◌}

-- the generator's number after x
abbrev pub number_after : ℕ → ℕ
number_after x = (x * 1103515245 + 12345) % 0x80000000

-- the generator's number after n steps from 1
unfoldable pub number : ℕ → ℕ
number zero = 1
number (suc n) = number_after (number n)

-- the byte at i, however many there are
abbrev pub sample_byte : ℕ → ℕ
sample_byte i = number (suc i) / 65536 % 256

-- the digest h, with one byte more
abbrev pub digest_after : ℕ → ℕ → ℕ
digest_after h b = (h * 65599 + b + 1) % 4294967291

-- the digest h, with all bytes of s
unfoldable pub digest_from : ℕ → List ℕ → ℕ
digest_from h [] = h
digest_from h (b ∷ s) = digest_from (digest_after h b) s

-- the digest of s
abbrev pub digest_of : List ℕ → ℕ
digest_of s = digest_from 0 s
