-- `extract::put_audio` meets its contract: the payload is copied to its place and made clear there. Assumes nothing.
use Rattle.extract.proofs.StreamLaws.{audio_under}
use Rattle.laws.proofs.LentLaws.{put_changed}
use Rattle.extract.proofs.put_audio.Goals as goal

pub returns : goal.returns
returns c =
    let stream = audio_under c.args.unmasking in
    put_changed c.args.payload.now _ _ _ c.requires c.copy_from_slice.ensures.after (stream.clear c.args.data_type) (stream.keeps c.args.data_type) _
    c.unmask_audio.ensures
