-- The promises of specs/Promises.antt, each under its name: laws of WalkLaws and of ModeLaws. Assumes nothing.
use Rattle.walk.specs.Promises as promised
use Rattle.walk.proofs.WalkLaws.{walk_step, sizes_fit, stops_at}
use Rattle.walk.proofs.ModeLaws.{same_walk}

pub WalkGoesByChunks : promised.WalkGoesByChunks
WalkGoesByChunks = walk_step

pub RefusedByAChunk : promised.RefusedByAChunk
RefusedByAChunk container reading c refusal s = stops_at container reading refusal c s

pub SizesFitWhatIsLeft : promised.SizesFitWhatIsLeft
SizesFitWhatIsLeft = sizes_fit

pub ModesAgreeOnAWalk : promised.ModesAgreeOnAWalk
ModesAgreeOnAWalk container reading other c same h plain = same_walk container reading other same c h plain
