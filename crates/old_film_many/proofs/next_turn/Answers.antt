-- `old_film_many::next_turn` meets its contract: the turn before says which streams go on. Assumes nothing.
use Prim.Native.Nat.{ℕ, ◌+◌}
use mathlib.Core.Path.{refl, ap}
use native.Mathlib.Omega.{arith}
use lib.Dec.{eqb}
use Rattle.old_film_many.proofs.StreamLaws.{turn_next}
use Rattle.old_film_many.proofs.next_turn.Goals as goal

pub overflow_add-from : goal.overflow_add-from
overflow_add-from c = omega (arith, c.requires.1)

pub overflow_add-start : goal.overflow_add-start
overflow_add-start c = omega (arith, c.chunk_size.ensures, c.len_at-video.ensures.2, c.requires.0)

pub next_audios-end-requires : goal.next_audios-end-requires
next_audios-end-requires c = (c.requires.0, omega (arith, c.chunk_size.ensures, c.len_at-video.ensures.2, c.requires.0), c.requires.1)

pub returns : goal.returns
returns c =
    let a = c.args in
    (c.next_audios-end.ensures.0, λ seen goings place few is. turn_next a.from seen goings a.bytes.now place a.turn is (eqb a.turn.video 0x10000) refl c.len_at-video.result _ _ c.len_at-video.ensures.0 (ap (λ (n : ℕ). a.turn.end + n) c.chunk_size.ensures) few c.next_audios-end.ensures.1)
