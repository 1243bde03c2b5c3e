-- `key::key_table` meets its contract: below `i` the bytes of V and of A are done, and from there A has its letters. Assumes nothing.
use Rattle.std.proofs.Common.{◌≡◌, ℕ, ◌+◌, List, refl, arith, rules}
use mathlib.Core.Path.{subst⁻¹}
use Rattle.laws.proofs.UptoLaws.{Upto, upto_none, upto_set, upto_skip}
use Rattle.key.specs.KeyTable.{table_v, table_a, keys_of}
use Rattle.key.proofs.VeilLaws.{a_at, lettered, lettered_length, even, odd, v_done, a_done}
use Rattle.key.proofs.key_table.Goals as goal
use Rattle.key.proofs.key_table.Goals.{then-i-eq0, else-i-eq0}

pub loop-i-init : goal.loop-i-init
loop-i-init c = (c.table_t-t.ensures, search rules, refl, upto_none _ _, upto_none _ _)

pub loop-i-preserved : goal.loop-i-preserved
loop-i-preserved c =
    let l = c.loop-i in
    let t = c.table_t-t.result in (
      search rules,
      search rules,
      refl,
      upto_set _ _ _ _ _ l.invariant.3 (omega (arith, l.invariant.3.len)) refl,
      elim c.if-i-eq0.branch [
        | then-i-eq0 w ↦ subst⁻¹ (λ (a : List ℕ). Upto (a_at t) lettered a (l.i + 1)) w.a-is
            (upto_set _ _ _ _ _ l.invariant.4 (omega (arith, l.invariant.4.len, lettered_length)) (even t l.i w.if-i-eq0.true))
        | else-i-eq0 w ↦ subst⁻¹ (λ (a : List ℕ). Upto (a_at t) lettered a (l.i + 1)) w.a-is
            (upto_skip _ _ _ _ l.invariant.4 (odd t l.i (omega arith) w.if-i-eq0.false))
      ],
    )

pub returns : goal.returns
unfolding keys_of
returns c =
    let l = c.loop-i in
    let t = c.table_t-t.result in
    let v_is : l.v ≡ table_v t = v_done t _ _ l.invariant.3 l.invariant.1 (omega arith) in
    let a_is : l.a ≡ table_a (table_v t) = a_done t _ _ l.invariant.4 (omega arith) in
    rw (a_is, v_is, l.invariant.0)
