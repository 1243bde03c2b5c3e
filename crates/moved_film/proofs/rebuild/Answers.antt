-- `moved_film::rebuild` meets its contract: what is read, rebuilt, is the container. Assumes nothing.
use Prim.Native.Nat.{ℕ, ◌+◌}
use mathlib.Core.Path.{refl, sym, ap, ap₂, ◌∙◌}
use mathlib.Core.List.{List}
use mathlib.Core.Bool.{Bool, true, false, ◌&&◌}
use native.Mathlib.Omega.{arith}
use lib.ListN.{length, length-drop}
use lib.Dec.{eqb}
use Rattle.part.specs.Parts.{part_at}
use Rattle.turns.specs.declared.Form.TheVariants.{New}
use Rattle.turns.specs.Turns.{read_in, turns_by}
use Rattle.moved_film.proofs.FindLaws.{rest_part, found}
use Rattle.moved_film.proofs.rebuild.Goals as goal

pub overflow_add-end : goal.overflow_add-end
overflow_add-end c =
    let a = c.args in
    let place = 86 + length a.name.now + c.padding.result + length a.rest.now in
    let part = c.part_at-chunks.ensures.2 ∙ ap (part_at a.container.now place) c.left_from.ensures ∙ rest_part a.container.now place in
    omega (arith, c.read_turns-turns.ensures.1, ap length part, length-drop place a.container.now, c.padding.ensures, c.well_formed)

pub returns-then-both : goal.returns-then-both
returns-then-both c =
    let a = c.args in
    let first = 86 + length a.name.now + c.padding.result in
    let place = first + length a.rest.now in
    let part = c.part_at-chunks.ensures.2 ∙ ap (part_at a.container.now place) c.left_from.ensures ∙ rest_part a.container.now place in
    let end = c.both-closed.ensures ∙ ap₂ (λ (x : Bool) (n : ℕ). x && eqb n (length a.ends.now)) c.stands_at.ensures c.left_from-2.ensures in
    let around = c.both-around.ensures ∙ ap₂ (λ (x y : Bool). x && y) c.stands_at-2.ensures end in
    let same = c.both-same.ensures ∙ ap₂ (λ (x y : Bool). x && y) c.name_stands.ensures around in
    let all = c.both.ensures ∙ ap₂ (λ (x y : Bool). x && y) c.is_utf8.ensures same in
    found a.container.now a.name.now a.packing c.requires.1 a.rest.now c.requires.2 a.ends.now c.requires.3 first place (ap (λ (m : ℕ). 86 + length a.name.now + m) c.padding.ensures) refl c.read_turns-turns.result (c.read_turns-turns.ensures.0 ∙ ap (λ (l : List ℕ). turns_by (read_in New a.packing.audio l)) part) (rw part at c.read_turns-turns.ensures.1) true (sym all ∙ c.if-both.true)

pub returns : goal.returns
returns c =
    let a = c.args in
    let first = 86 + length a.name.now + c.padding.result in
    let place = first + length a.rest.now in
    let part = c.part_at-chunks.ensures.2 ∙ ap (part_at a.container.now place) c.left_from.ensures ∙ rest_part a.container.now place in
    let end = c.both-closed.ensures ∙ ap₂ (λ (x : Bool) (n : ℕ). x && eqb n (length a.ends.now)) c.stands_at.ensures c.left_from-2.ensures in
    let around = c.both-around.ensures ∙ ap₂ (λ (x y : Bool). x && y) c.stands_at-2.ensures end in
    let same = c.both-same.ensures ∙ ap₂ (λ (x y : Bool). x && y) c.name_stands.ensures around in
    let all = c.both.ensures ∙ ap₂ (λ (x y : Bool). x && y) c.is_utf8.ensures same in
    found a.container.now a.name.now a.packing c.requires.1 a.rest.now c.requires.2 a.ends.now c.requires.3 first place (ap (λ (m : ℕ). 86 + length a.name.now + m) c.padding.ensures) refl c.read_turns-turns.result (c.read_turns-turns.ensures.0 ∙ ap (λ (l : List ℕ). turns_by (read_in New a.packing.audio l)) part) (rw part at c.read_turns-turns.ensures.1) false (sym all ∙ c.if-both.false)
