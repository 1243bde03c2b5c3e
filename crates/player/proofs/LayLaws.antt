-- Three rows put one after the other into a buffer. Assumes nothing.
use mathlib.Core.Path.{◌≡◌, refl, sym, ap, ap₂, ◌∙◌}
use mathlib.Core.List.{List, ◌++◌, append_assoc}
use Prim.Native.Nat.{ℕ, ◌+◌, ◌≤◌}
use native.Mathlib.Omega.{arith}
use lib.ListN.{length, take, drop, length-append}
use lib.Seq.{take_at, drop_at, drop-drop}
use borrow.Author.Tests.{le-ltb}
use Rattle.key.specs.KeyTable.{table_t, table_by, table_v, keys_of}
use Rattle.laws.proofs.TabLaws.{tab_length}
use Rattle.player.specs.KeyTableOut.{laid}

three : (n : ℕ) (t v a s : List ℕ) → length t ≡ n → length v ≡ n
    → take (n + n) (take n (t ++ drop n s) ++ (v ++ drop n (drop n (t ++ drop n s))))
    ++ (a ++ drop n (drop (n + n) (take n (t ++ drop n s) ++ (v ++ drop n (drop n (t ++ drop n s))))))
    ≡ t ++ (v ++ (a ++ drop (n + n + n) s))
three n t v a s lt lv =
    let m : take n (t ++ drop n s) ++ (v ++ drop n (drop n (t ++ drop n s))) ≡ (t ++ v) ++ drop n (drop n s) =
    ap₂ (λ (x y : List ℕ). x ++ (v ++ drop n y)) (take_at t (drop n s) n lt) (drop_at t (drop n s) n lt) ∙ sym (append_assoc t v (drop n (drop n s))) in
    let l : length (t ++ v) ≡ n + n = omega (arith, length-append t v) in
    ap (λ (z : List ℕ). take (n + n) z ++ (a ++ drop n (drop (n + n) z))) m
    ∙ ap₂ (λ (x y : List ℕ). x ++ (a ++ drop n y)) (take_at (t ++ v) (drop n (drop n s)) (n + n) l) (drop_at (t ++ v) (drop n (drop n s)) (n + n) l)
    ∙ append_assoc t v (a ++ drop n (drop n (drop n s)))
    ∙ ap (λ (z : List ℕ). t ++ (v ++ (a ++ z))) (ap (drop n) (drop-drop n n s) ∙ drop-drop n (n + n) s)

t_length : (key : ℕ) → length (keys_of key).t ≡ 32
unfolding keys_of table_t table_by
t_length key = refl

v_length : (key : ℕ) → length (keys_of key).v ≡ 32
unfolding keys_of table_v
v_length key = tab_length _ 32

pub lay : (key : ℕ) (s t v a : List ℕ) → t ≡ (keys_of key).t → v ≡ (keys_of key).v → a ≡ (keys_of key).a → 96 ≤ length s
    → take 64 (take 32 (t ++ drop 32 s) ++ (v ++ drop 32 (drop 32 (t ++ drop 32 s))))
    ++ (a ++ drop 32 (drop 64 (take 32 (t ++ drop 32 s) ++ (v ++ drop 32 (drop 32 (t ++ drop 32 s))))))
    ≡ laid (keys_of key) s
unfolding laid
lay key s t v a et ev ea h =
    rw (le-ltb (length s) 96 h)
    (three 32 t v a s (ap length et ∙ t_length key) (ap length ev ∙ v_length key)
    ∙ ap₂ (λ (x y : List ℕ). x ++ (y ++ (a ++ drop 96 s))) et ev ∙ ap (λ (z : List ℕ). (keys_of key).t ++ ((keys_of key).v ++ (z ++ drop 96 s))) ea)
