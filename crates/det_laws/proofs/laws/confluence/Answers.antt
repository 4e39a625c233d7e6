use Rattle.std.proofs.Common.{true}
use Rattle.det_laws.proofs.Reaching.{replay_settles}
use Rattle.det_laws.proofs.laws.confluence.Goals as goal

pub returns : goal.returns
returns c s ps sound = replay_settles ps 8 true sound.0 s sound.1.2
