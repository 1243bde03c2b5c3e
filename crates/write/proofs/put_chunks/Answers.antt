-- `write::put_chunks` meets its contract: what is put, with the chunks of this round and later put after it, is what all chunks leave. Assumes nothing.
use Rattle.std.proofs.Common.{◌≡◌, ℕ, ◌+◌, ◌*◌, arith, sym, subst}
use Rattle.laws.proofs.PutLaws.{all_left}
use Rattle.write.proofs.FilmPutLaws.{ChunksLeft, video-fits, audio-fits, turn_put, chunks_put}
use Rattle.write.proofs.put_chunks.Goals as goal

pub loop-round-init : goal.loop-round-init
loop-round-init c = all_left _ _ _

pub overflow_mul-from : goal.overflow_mul-from
overflow_mul-from c = omega (arith, c.max-longest.ensures, c.div_ceil-round-end.ensures, c.requires.1, c.requires.2)

pub put_next-middle-requires : goal.put_next-middle-requires
put_next-middle-requires c =
    let l = c.loop-round in
    video-fits c.args.unmasking c.args.video.now c.args.audio.now c.args.out.now c.args.start _ l.at (l.round * 0x10000) l.invariant c.requires.0

pub put_next-end-requires : goal.put_next-end-requires
put_next-end-requires c =
    let l = c.loop-round in
    audio-fits c.args.unmasking c.args.video.now c.args.audio.now c.args.out.now c.args.start _ l.at (l.round * 0x10000) l.invariant c.requires.0 c.put_next-middle.ensures

pub loop-round-preserved : goal.loop-round-preserved
loop-round-preserved c =
    let l = c.loop-round in
    let next : (l.round + 1) * 0x10000 ≡ l.round * 0x10000 + 0x10000 = omega arith in
    subst (λ (n : ℕ). ChunksLeft c.args.unmasking c.args.video.now c.args.audio.now c.args.out.now c.args.start c.put_next-end.new.out c.put_next-end.result n) (sym next)
    (turn_put c.args.unmasking c.args.video.now c.args.audio.now c.args.out.now c.args.start _ l.at (l.round * 0x10000) l.invariant c.put_next-middle.ensures c.put_next-end.ensures)

pub returns : goal.returns
returns c =
    let l = c.loop-round in
    chunks_put c.args.unmasking c.args.video.now c.args.audio.now c.args.out.now c.args.start _ l.at (l.round * 0x10000) l.invariant (omega (arith, c.max-longest.ensures, c.div_ceil-round-end.ensures)) (omega (arith, c.max-longest.ensures, c.div_ceil-round-end.ensures))
