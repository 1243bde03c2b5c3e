-- `player::usm_key_table` meets its contract, by those of the key table and of its three rows. Assumes nothing.
use mathlib.Core.Path.{◌∙◌, ap}
use borrow.Author.Tests.{lt-ltb, le-ltb}
use Rattle.key.specs.declared.Keys.{Keys}
use Rattle.player.specs.KeyTableOut.{laid}
use Rattle.player.proofs.LayLaws.{lay}
use Rattle.player.proofs.usm_key_table.Goals as goal

pub returns-then-table-lt96 : goal.returns-then-table-lt96
unfolding laid
returns-then-table-lt96 c = (rw (lt-ltb _ _ c.if-table-lt96.true), rw (lt-ltb _ _ c.if-table-lt96.true))

pub returns : goal.returns
returns c =
    let big = c.if-table-lt96.false in (
      rw (le-ltb _ _ big),
      lay _ _ _ _ _ (c.put.ensures ∙ ap (λ (k : Keys). k.t) c.key_table-keys.ensures)
          (c.put-2.ensures ∙ ap (λ (k : Keys). k.v) c.key_table-keys.ensures)
          (c.put-3.ensures ∙ ap (λ (k : Keys). k.a) c.key_table-keys.ensures) big,
    )
