-- Rule O8: well-formed UTF-8, by the Unicode Standard's table 3-7. Each row of it is a first byte, how many bytes follow, and the range of the second; all others lie
-- between 80 and BF.
use Rattle.std.specs.Prelude.{ℕ, ◌-◌, List, [], ◌∷◌, Bool, cond, ltb, eqb}
use Rattle.utf8.specs.declared.Due.{Due}

abbrev pub due : ℕ → ℕ → ℕ → Due
due more low high = record { more = more; low = low; high = high }

-- a character may begin
abbrev pub none : Due
none = due 0 0 0

-- no byte may follow, and one has to
abbrev pub never : Due
never = due 1 1 0

-- after a first byte: 00..7F; 80..C1; C2..DF; E0; ED; E1..EC, EE, EF; F0; F1..F3; F4; F5..FF
unfoldable pub due_after : ℕ → Due
due_after byte =
    cond (ltb byte 0x80) none
    (cond (ltb byte 0xC2) never
    (cond (ltb byte 0xE0) (due 1 0x80 0xBF)
    (cond (eqb byte 0xE0) (due 2 0xA0 0xBF)
    (cond (eqb byte 0xED) (due 2 0x80 0x9F)
    (cond (ltb byte 0xF0) (due 2 0x80 0xBF)
    (cond (eqb byte 0xF0) (due 3 0x90 0xBF)
    (cond (ltb byte 0xF4) (due 3 0x80 0xBF)
    (cond (eqb byte 0xF4) (due 3 0x80 0x8F) never))))))))

-- after one more byte
unfoldable pub due_next : Due → ℕ → Due
due_next now byte =
    cond (eqb now.more 0) (due_after byte)
    (cond (ltb byte now.low) never
    (cond (ltb now.high byte) never
    (due (now.more - 1) 0x80 0xBF)))

unfoldable pub utf8_from : Due → List ℕ → Bool
utf8_from now [] = eqb now.more 0
utf8_from now (byte ∷ bytes) = utf8_from (due_next now byte) bytes

abbrev pub is_utf8 : List ℕ → Bool
is_utf8 bytes = utf8_from none bytes
