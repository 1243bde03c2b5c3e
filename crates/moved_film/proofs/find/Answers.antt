-- `moved_film::find` meets its contract: a header that is read says name and packing. Assumes nothing.
use Prim.Native.Nat.{ℕ}
use mathlib.Core.Path.{refl, sym, ap, ap₂, ◌∙◌}
use mathlib.Core.List.{List, []}
use native.Mathlib.Omega.{arith}
use lib.ListN.{length}
use Rattle.header.specs.Headers.{header_of}
use Rattle.write_plan.specs.declared.Packing.{Packing}
use Rattle.moved_film.specs.Finding.{parts_from, found_as}
use Rattle.moved_film.proofs.HeaderLaws.{not_alone, within, name_read, name_few, found_read, found_none}
use Rattle.moved_film.proofs.find.Goals as goal

pub found_as-requires : goal.found_as-requires
found_as-requires c =
    let a = c.args in
    let head = c.in-Ok.head in
    let answer = sym (c.read_header.ensures ∙ ap (header_of a.container.now) c.as_original.ensures) ∙ c.in-Ok.is in
    let name = name_read a.container (record { ref_ptr = (_, 0); now = [] }) head.name c.name_of-name.result c.name_of-name.ensures refl in
    (omega (arith, ap length name, name_few a.container.now head.name, within a.container.now _ head answer), ap (λ (p : Packing). p.key) c.packing_by.ensures, rw c.packing_by.ensures (not_alone a.container.now _ head answer))

pub returns-in-Ok : goal.returns-in-Ok
returns-in-Ok c =
    let a = c.args in
    let head = c.in-Ok.head in
    let answer = sym (c.read_header.ensures ∙ ap (header_of a.container.now) c.as_original.ensures) ∙ c.in-Ok.is in
    let name = name_read a.container (record { ref_ptr = (_, 0); now = [] }) head.name c.name_of-name.result c.name_of-name.ensures refl in
    c.found_as.ensures ∙ ap₂ (λ (l : List ℕ) (p : Packing). found_as a.container.now (parts_from a.container.now l p)) name c.packing_by.ensures ∙ found_read a.container.now head answer

pub returns-in-Err : goal.returns-in-Err
returns-in-Err c =
    let a = c.args in
    found_none a.container.now _ (sym (c.read_header.ensures ∙ ap (header_of a.container.now) c.as_original.ensures) ∙ c.in-Err.is)
