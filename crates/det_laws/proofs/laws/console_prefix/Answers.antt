use Rattle.std.proofs.Common.{true}
use Rattle.det_laws.proofs.Console.{replay_writes}
use Rattle.det_laws.proofs.laws.console_prefix.Goals as goal

pub returns : goal.returns
returns c s ps sound = replay_writes ps 8 true sound.0 s sound.1.2
