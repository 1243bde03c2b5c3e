-- `old_film_many::is_many` meets its contract: what is read, rebuilt, is the container. Assumes nothing.
use Prim.Native.Nat.{ℕ, ◌+◌, ◌*◌}
use mathlib.Core.Path.{refl, sym, ap, ◌∙◌}
use native.Mathlib.Omega.{arith}
use Rattle.old_film_many.proofs.ManyLaws.{too_few, are_many, no_name}
use Rattle.old_film_many.proofs.is_many.Goals as goal

pub overflow_add-place : goal.overflow_add-place
overflow_add-place c = omega (arith, c.name_size-place.ensures, c.name_in-name.ensures.1)

pub count_in-count-requires : goal.count_in-count-requires
count_in-count-requires c = omega (arith, c.name_size-place.ensures, c.name_in-name.ensures.1)

pub returns-then-count-lt2 : goal.returns-then-count-lt2
returns-then-count-lt2 c =
    let a = c.args in
    too_few a.container.now c.name_in-name.result.now c.name_in-name.ensures.0.2 (c.name_size-place.result + 0x80) (ap (λ (n : ℕ). n + 0x80) c.name_size-place.ensures) c.count_in-count.result c.count_in-count.ensures.0 c.if-count-lt2.true

pub overflow_mul-start : goal.overflow_mul-start
overflow_mul-start c = omega (arith, c.count_in-count.ensures.1)

pub overflow_add-start : goal.overflow_add-start
overflow_add-start c = omega (arith, c.count_in-count.ensures.1, c.name_size-place.ensures, c.name_in-name.ensures.1)

pub read_streams-sizes-requires : goal.read_streams-sizes-requires
read_streams-sizes-requires c = (c.count_in-count.ensures.2 (omega (arith, c.if-count-lt2.false)), c.count_in-count.ensures.1)

pub returns-then-is_utf8 : goal.returns-then-is_utf8
returns-then-is_utf8 c =
    let a = c.args in
    are_many a.container.now c.name_in-name.result.now c.name_in-name.ensures.0.2 (c.name_size-place.result + 0x80) (ap (λ (n : ℕ). n + 0x80) c.name_size-place.ensures) c.count_in-count.result c.count_in-count.ensures.0 (omega (arith, c.if-count-lt2.false)) (c.name_size-place.result + 0x80 + c.count_in-count.result * 0x60) refl (c.count_in-count.ensures.2 (omega (arith, c.if-count-lt2.false))) c.read_streams-sizes.result c.read_streams-sizes.ensures.0 c.read_streams-sizes.ensures.1 c.is_rebuilt.result (sym c.is_utf8.ensures ∙ c.if-is_utf8.true) c.is_rebuilt.ensures

pub returns : goal.returns
returns c =
    let a = c.args in
    no_name a.container.now c.name_in-name.result.now c.name_in-name.ensures.0.2 (c.name_size-place.result + 0x80) (ap (λ (n : ℕ). n + 0x80) c.name_size-place.ensures) c.count_in-count.result c.count_in-count.ensures.0 (omega (arith, c.if-count-lt2.false)) (c.name_size-place.result + 0x80 + c.count_in-count.result * 0x60) refl (c.count_in-count.ensures.2 (omega (arith, c.if-count-lt2.false))) c.read_streams-sizes.result c.read_streams-sizes.ensures.0 c.read_streams-sizes.ensures.1 (sym c.is_utf8.ensures ∙ c.if-is_utf8.false)
