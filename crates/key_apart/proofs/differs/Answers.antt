-- `key_apart::differs` meets its contract, by cases of the mask. Assumes nothing.
use Rattle.key_apart.proofs.differs.Goals as goal

pub returns-in-VideoMask : goal.returns-in-VideoMask
returns-in-VideoMask c = rw c.in-VideoMask.is c.video_differs.ensures

pub returns-in-AudioMask : goal.returns-in-AudioMask
returns-in-AudioMask c = rw c.in-AudioMask.is c.audio_differs.ensures
