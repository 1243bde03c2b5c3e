-- `block::codec_block` meets its contract: the table is read after a head that was read, which lies within the container. Assumes nothing.
use mathlib.Core.Path.{sym, ◌∙◌}
use Rattle.std.proofs.lemmas.Result.{err_from_is_err_and}
use Rattle.block.specs.Blocks.{codec_block}
use Rattle.block.proofs.BlockLaws.{head_within}
use Rattle.block.proofs.codec_block.Goals as goal

pub codec_at-requires : goal.codec_at-requires
codec_at-requires c =
    let a = c.args in
    head_within a.bytes.now a.letters a.missing a.place c.in_ok-next.next (sym c.head_at.ensures ∙ c.in_ok-next.was)

pub returns : goal.returns
unfolding codec_block
returns c = rw (c.codec_at.ensures, sym c.head_at.ensures ∙ c.in_ok-next.was)

pub returns-in_err-next : goal.returns-in_err-next
unfolding codec_block
returns-in_err-next c =
    let p = err_from_is_err_and c.from_residual.result c.from_residual.ensures.1 in rw (p.1, p.2)
    (rw (sym c.head_at.ensures ∙ c.in_err-next.was))
