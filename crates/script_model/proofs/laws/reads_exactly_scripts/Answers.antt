use Rattle.script_model.proofs.Scripts.{script_takes, script_again}
use Rattle.script_model.proofs.laws.reads_exactly_scripts.Goals as goal

pub returns : goal.returns
returns c = λ bytes d. (script_takes bytes d, script_again bytes d)
