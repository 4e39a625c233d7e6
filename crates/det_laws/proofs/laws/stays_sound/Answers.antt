use Rattle.run_model.proofs.Sound.{replay_whole}
use Rattle.det_laws.proofs.laws.stays_sound.Goals as goal

pub returns : goal.returns
returns c s ps sound = replay_whole ps s sound
