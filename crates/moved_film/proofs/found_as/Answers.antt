-- `moved_film::found_as` meets its contract: what is written without a name and a payload holds all other blocks. Assumes nothing.
use mathlib.Core.Path.{sym, ap, ◌∙◌}
use Prim.Native.Nat.{ℕ}
use mathlib.Core.List.{List, ◌++◌}
use Rattle.write_plan.proofs.BlockLaws.{header_bytes}
use Rattle.moved_film.proofs.FindLaws.{name_block}
use Rattle.moved_film.proofs.FrameLaws.{cut_fits, rest_is, ends_are, not_refused}
use Rattle.moved_film.proofs.found_as.Goals as goal

pub overflow_sub-cut : goal.overflow_sub-cut
overflow_sub-cut c =
    (cut_fits c.args.packing c.requires.1 c.requires.2 c.write.ensures c.in-Ok.is c.ends_size-ends.ensures).0

pub overflow_sub-cut-in-Ok : goal.overflow_sub-cut-in-Ok
overflow_sub-cut-in-Ok c =
    (cut_fits c.args.packing c.requires.1 c.requires.2 c.write.ensures c.in-Ok.is c.ends_size-ends.ensures).1

pub rebuild-requires : goal.rebuild-requires
rebuild-requires c =
    let a = c.args in
    let rest = c.part_at-rest.ensures.2 ∙ rest_is a.packing c.requires.1 c.requires.2 c.write.ensures c.in-Ok.is c.ends_size-ends.ensures in
    let last = c.part_at-last.ensures.2 ∙ ends_are a.packing c.requires.1 c.requires.2 c.write.ensures c.in-Ok.is c.ends_size-ends.ensures in
    (c.requires.0, c.requires.1, header_bytes a.name.now a.packing ∙ ap (λ (l : List ℕ). name_block a.name.now ++ l) (sym rest), last)

pub returns-in-Err : goal.returns-in-Err
returns-in-Err c =
    absurd (not_refused c.args.packing c.requires.1 c.requires.2 c.write.ensures _ c.in-Err.is)
