-- `old_film::find` meets its contract: what is read, rebuilt, is the container. Assumes nothing.
use Prim.Native.Nat.{ℕ, ◌+◌, ◌*◌}
use mathlib.Core.Path.{sym, ap, ap₂, ◌∙◌}
use mathlib.Core.List.{List}
use mathlib.Core.Bool.{Bool, true, false, ◌&&◌}
use native.Mathlib.Omega.{arith}
use lib.ListN.{length, length-drop}
use Rattle.signature.specs.Signatures.{SFA, stands_at}
use Rattle.turns.specs.declared.Form.TheVariants.{Old}
use Rattle.turns.specs.Turns.{read_in, turns_by}
use Rattle.old_film.specs.Blocks.{table_block}
use Rattle.old_film.specs.Tables.{old_audio}
use Rattle.old_film.proofs.FindLaws.{count_is, count_fits, found, not_utf8}
use Rattle.old_film.proofs.find.Goals as goal

pub overflow_add-first : goal.overflow_add-first
overflow_add-first c = omega (arith, c.name_size-first.ensures, c.name_in-name.ensures.1)

pub overflow_add-start : goal.overflow_add-start
overflow_add-start c = omega (arith, c.name_size-first.ensures, c.name_in-name.ensures.1)

pub overflow_mul-start : goal.overflow_mul-start
overflow_mul-start c = omega (arith, c.audio_count-count.ensures, count_fits c.audio_stands-audio.result)

pub overflow_add-start-2 : goal.overflow_add-start-2
overflow_add-start-2 c =
    omega (arith, c.audio_count-count.ensures, count_fits c.audio_stands-audio.result, c.name_size-first.ensures, c.name_in-name.ensures.1)

pub overflow_add-end : goal.overflow_add-end
overflow_add-end c =
    let a = c.args in
    omega (arith, c.read_turns-turns.ensures.1, ap length c.tail.ensures, length-drop (c.name_size-first.result + 0x80 + c.audio_count-count.result * 0x60) a.container.now, c.audio_count-count.ensures, count_fits c.audio_stands-audio.result, c.name_size-first.ensures, c.name_in-name.ensures.1)

pub overflow_cast-len-then-is_utf8 : goal.overflow_cast-len-then-is_utf8
overflow_cast-len-then-is_utf8 c = omega (arith, c.name_in-name.ensures.1)

pub returns-then-is_rebuilt : goal.returns-then-is_rebuilt
returns-then-is_rebuilt c =
    let a = c.args in
    found a.container.now c.name_in-name.result.now c.name_in-name.ensures.0.2 c.audio_stands-audio.result (c.audio_stands-audio.ensures ∙ ap (λ (n : ℕ). stands_at (table_block SFA (old_audio 0)) a.container.now (n + 0x80)) c.name_size-first.ensures) (c.name_size-first.result + 0x80 + c.audio_count-count.result * 0x60) (ap₂ (λ (m n : ℕ). m + 0x80 + n) c.name_size-first.ensures (ap (λ (n : ℕ). n * 0x60) c.audio_count-count.ensures ∙ count_is c.audio_stands-audio.result)) c.read_turns-turns.result (c.read_turns-turns.ensures.0 ∙ ap (λ (l : List ℕ). turns_by (read_in Old c.audio_stands-audio.result l)) c.tail.ensures) (rw c.tail.ensures at c.read_turns-turns.ensures.1) c.audio_count-count.result c.audio_count-count.ensures true (ap₂ (λ (x y : Bool). x && y) (sym c.is_utf8.ensures ∙ c.if-is_utf8.true) (sym c.is_rebuilt.ensures ∙ c.if-is_rebuilt.true))

pub returns-then-is_utf8 : goal.returns-then-is_utf8
returns-then-is_utf8 c =
    let a = c.args in
    found a.container.now c.name_in-name.result.now c.name_in-name.ensures.0.2 c.audio_stands-audio.result (c.audio_stands-audio.ensures ∙ ap (λ (n : ℕ). stands_at (table_block SFA (old_audio 0)) a.container.now (n + 0x80)) c.name_size-first.ensures) (c.name_size-first.result + 0x80 + c.audio_count-count.result * 0x60) (ap₂ (λ (m n : ℕ). m + 0x80 + n) c.name_size-first.ensures (ap (λ (n : ℕ). n * 0x60) c.audio_count-count.ensures ∙ count_is c.audio_stands-audio.result)) c.read_turns-turns.result (c.read_turns-turns.ensures.0 ∙ ap (λ (l : List ℕ). turns_by (read_in Old c.audio_stands-audio.result l)) c.tail.ensures) (rw c.tail.ensures at c.read_turns-turns.ensures.1) c.audio_count-count.result c.audio_count-count.ensures false (ap₂ (λ (x y : Bool). x && y) (sym c.is_utf8.ensures ∙ c.if-is_utf8.true) (sym c.is_rebuilt.ensures ∙ c.if-is_rebuilt.false))

pub returns : goal.returns
returns c =
    let a = c.args in
    not_utf8 a.container.now c.name_in-name.result.now c.name_in-name.ensures.0.2 c.audio_stands-audio.result (c.audio_stands-audio.ensures ∙ ap (λ (n : ℕ). stands_at (table_block SFA (old_audio 0)) a.container.now (n + 0x80)) c.name_size-first.ensures) (c.name_size-first.result + 0x80 + c.audio_count-count.result * 0x60) (ap₂ (λ (m n : ℕ). m + 0x80 + n) c.name_size-first.ensures (ap (λ (n : ℕ). n * 0x60) c.audio_count-count.ensures ∙ count_is c.audio_stands-audio.result)) c.read_turns-turns.result (c.read_turns-turns.ensures.0 ∙ ap (λ (l : List ℕ). turns_by (read_in Old c.audio_stands-audio.result l)) c.tail.ensures) (rw c.tail.ensures at c.read_turns-turns.ensures.1) c.audio_count-count.result c.audio_count-count.ensures (sym c.is_utf8.ensures ∙ c.if-is_utf8.false)
