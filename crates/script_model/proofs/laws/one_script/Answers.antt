use Rattle.script_model.proofs.Scripts.{one}
use Rattle.script_model.proofs.laws.one_script.Goals as goal

pub returns : goal.returns
returns c = λ bytes d e. one bytes d e
