-- The key table's sums and differences, put into its list. `xor` is any operation, so that nothing is computed of it. Assumes nothing.
use Rattle.std.proofs.Common.{◌≡◌, ℕ, ◌%◌, [], ◌∷◌, arith}
use Rattle.key.specs.KeyTable.{plus, minus, key_byte, table_by}

pub key_low : (key : ℕ) → key % 256 ≡ key_byte key 0
key_low key = omega arith

pub table_is : (xor : ℕ → ℕ → ℕ) (key : ℕ) {k0 k1 k2 k3 k4 k5 k6 t3 t4 t6 t8 t9 tc td tf t10 t14 t15 t17 t18 t19 t1b t1c t1d t1e : ℕ}
    → k0 ≡ key_byte key 0
    → k1 ≡ key_byte key 1
    → k2 ≡ key_byte key 2
    → k3 ≡ key_byte key 3
    → k4 ≡ key_byte key 4
    → k5 ≡ key_byte key 5
    → k6 ≡ key_byte key 6
    → t3 ≡ minus k3 0x34
    → t4 ≡ plus (k4 % 16) 0xF9
    → t6 ≡ plus k6 0x61
    → t8 ≡ plus k2 k1
    → t9 ≡ minus k1 (xor k0 0xFF)
    → tc ≡ plus (xor k1 0xFF) t9
    → td ≡ minus t8 t3
    → tf ≡ minus (xor k2 0xFF) (xor k1 0xFF)
    → t10 ≡ minus t8 tf
    → t14 ≡ minus t4 0x32
    → t15 ≡ plus (xor k5 0x13) 0xED
    → t17 ≡ minus (xor t3 0x10) tf
    → t18 ≡ plus t15 (xor k0 0xFF)
    → t19 ≡ minus 0x21 (xor t3 0x10)
    → t1b ≡ plus (xor t6 0xF3) (xor t6 0xF3)
    → t1c ≡ plus t17 0x44
    → t1d ≡ plus t3 t4
    → t1e ≡ minus (xor k5 0x13) (xor t6 0xF3)
    → k0 ∷ k1 ∷ k2 ∷ t3 ∷ t4 ∷ (xor k5 0x13) ∷ t6 ∷ (xor k0 0xFF) ∷ t8 ∷ t9 ∷ (xor k2 0xFF) ∷ (xor k1 0xFF) ∷ tc ∷ td ∷ (xor td 0xFF) ∷ tf ∷ t10 ∷ (xor t10 (xor k0 0xFF)) ∷ (xor tf 0xFF) ∷ (xor t3 0x10) ∷ t14 ∷ t15 ∷ (xor t6 0xF3) ∷ t17 ∷ t18 ∷ t19 ∷ (xor t14 t17) ∷ t1b ∷ t1c ∷ t1d ∷ t1e ∷ (xor t1d (xor t3 0x10)) ∷ [] ≡ table_by xor key
unfolding table_by
table_is xor key h0 h1 h2 h3 h4 h5 h6 e3 e4 e6 e8 e9 ec ed ef e10 e14 e15 e17 e18 e19 e1b e1c e1d e1e = rw (e1e, e1d, e1c, e1b, e19, e18, e17, e15, e14, e10, ef, ed, ec, e9, e8, e6, e4, e3, h6, h5, h4, h3, h2, h1, h0)
