-- `old_film_many::first_turn` meets its contract: the audios stand behind the video's chunk. Assumes nothing.
use Prim.Native.Nat.{ℕ, ◌+◌}
use mathlib.Core.Path.{ap}
use mathlib.Core.Bool.{true}
use native.Mathlib.Omega.{arith}
use lib.ListN.{replicate}
use Rattle.old_film_many.proofs.StreamLaws.{turn_is}
use Rattle.old_film_many.proofs.first_turn.Goals as goal

pub len_at-video-requires : goal.len_at-video-requires
len_at-video-requires c = c.requires.0

pub overflow_add-start : goal.overflow_add-start
overflow_add-start c = omega (arith, c.chunk_size.ensures, c.len_at-video.ensures.2)

pub first_audios-end-requires : goal.first_audios-end-requires
first_audios-end-requires c = (omega (arith, c.chunk_size.ensures, c.len_at-video.ensures.2), c.requires.1)

pub returns : goal.returns
returns c =
    let a = c.args in
    (turn_is 0 true (replicate a.count true) a.bytes.now a.place c.len_at-video.result _ c.first_audios-end.result c.len_at-video.ensures.0 (ap (λ (n : ℕ). a.place + n) c.chunk_size.ensures) c.first_audios-end.ensures.0, c.first_audios-end.ensures.1)
