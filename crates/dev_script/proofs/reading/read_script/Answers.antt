use Rattle.std.proofs.Common.{Result, subst}
use Rattle.script_model.specs.declared.error.ScriptError.{ScriptError}
use Rattle.device_model.specs.Devices.{Devices}
use Rattle.script_model.proofs.Scripts.{script_again, refused_again}
use Rattle.fault_model.specs.Gives.{Gives}
use Rattle.dev_script.proofs.Found.{is_found, is_named}
use Rattle.dev_script.proofs.reading.read_script.Goals as goal

pub returns-clause-found : goal.returns-clause-found
returns-clause-found c = is_found c.args.bytes.now c.whole.result c.whole.ensures

pub returns-clause-only : goal.returns-clause-only
returns-clause-only c = λ d h. subst (λ (r : Result Devices ScriptError). Gives (λ x. x) c.whole.result r) (script_again c.args.bytes.now d h) c.whole.ensures

pub returns-clause-named : goal.returns-clause-named
returns-clause-named c = is_named c.args.bytes.now c.whole.result c.whole.ensures

pub returns-clause-refused : goal.returns-clause-refused
returns-clause-refused c = λ n h. subst (λ (r : Result Devices ScriptError). Gives (λ x. x) c.whole.result r) (refused_again c.args.bytes.now n h) c.whole.ensures
