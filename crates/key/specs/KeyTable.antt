-- Rules K and M: the key table.
use Rattle.std.specs.Prelude.{ℕ, ◌+◌, ◌-◌, ◌/◌, ◌%◌, ◌^◌, cond, List, [], ◌∷◌, ◌==◌, bit_xor}
use Rattle.laws.specs.Lists.{tab, at}
use Rattle.key.specs.declared.Keys.{Keys}

-- "Byte sums and differences wrap modulo 256"
abbrev pub plus : ℕ → ℕ → ℕ
plus a b = (a + b) % 256

abbrev pub minus : ℕ → ℕ → ℕ
minus a b = (a + 256 - b) % 256

-- "k0 to k7 are the key's bytes, lowest first."
abbrev pub key_byte : ℕ → ℕ → ℕ
key_byte key i = key / 256 ^ i % 256

-- "T has 32 bytes", by the xor of two bytes
unfoldable pub table_by : (ℕ → ℕ → ℕ) → ℕ → List ℕ
table_by xor key =
    let k = key_byte key in
    let t0 = k 0 in
    let t1 = k 1 in
    let t2 = k 2 in
    let t3 = minus (k 3) 0x34 in
    let t4 = plus (k 4 % 16) 0xF9 in
    let t5 = xor (k 5) 0x13 in
    let t6 = plus (k 6) 0x61 in
    let t7 = xor t0 0xFF in
    let t8 = plus t2 t1 in
    let t9 = minus t1 t7 in
    let ta = xor t2 0xFF in
    let tb = xor t1 0xFF in
    let tc = plus tb t9 in
    let td = minus t8 t3 in
    let te = xor td 0xFF in
    let tf = minus ta tb in
    let t10 = minus t8 tf in
    let t11 = xor t10 t7 in
    let t12 = xor tf 0xFF in
    let t13 = xor t3 0x10 in
    let t14 = minus t4 0x32 in
    let t15 = plus t5 0xED in
    let t16 = xor t6 0xF3 in
    let t17 = minus t13 tf in
    let t18 = plus t15 t7 in
    let t19 = minus 0x21 t13 in
    let t1a = xor t14 t17 in
    let t1b = plus t16 t16 in
    let t1c = plus t17 0x44 in
    let t1d = plus t3 t4 in
    let t1e = minus t5 t16 in
    let t1f = xor t1d t13 in
    t0 ∷ t1 ∷ t2 ∷ t3 ∷ t4 ∷ t5 ∷ t6 ∷ t7 ∷ t8 ∷ t9 ∷ ta ∷ tb ∷ tc ∷ td ∷ te ∷ tf
    ∷ t10 ∷ t11 ∷ t12 ∷ t13 ∷ t14 ∷ t15 ∷ t16 ∷ t17 ∷ t18 ∷ t19 ∷ t1a ∷ t1b ∷ t1c ∷ t1d ∷ t1e ∷ t1f ∷ []

unfoldable pub table_t : ℕ → List ℕ
table_t = table_by bit_xor

-- "V is T with every bit inverted."
unfoldable pub table_v : List ℕ → List ℕ
table_v t = tab (λ i. bit_xor (at t i) 0xFF) 32

-- "the letters U, R, U, C"
abbrev pub letters : List ℕ
letters = 0x55 ∷ 0x52 ∷ 0x55 ∷ 0x43 ∷ []

-- "A has V at even positions and the letters U, R, U, C in turn at odd ones."
abbrev pub table_aat : List ℕ → ℕ → ℕ
table_aat v i = cond (i % 2 == 0) (at v i) (at letters (i / 2 % 4))

unfoldable pub table_a : List ℕ → List ℕ
table_a v = tab (table_aat v) 32

-- "T, V and A travel as one record of three 32-byte arrays."
unfoldable pub keys_of : ℕ → Keys
keys_of key = record { t = table_t key; v = table_v (table_t key); a = table_a (table_v (table_t key)) }
