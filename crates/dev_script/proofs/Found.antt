-- What reading gives is in the grammar, and the line that it names is the first one that is refused.
use Rattle.std.proofs.Common.{ℕ, List, Result, Ok, Err}
use Rattle.std.specs.Prelude.{IfOk, IfErr}
use Rattle.device_model.specs.Devices.{Devices}
use Rattle.script_model.specs.Script.{ScriptOf}
use Rattle.script_model.specs.Reading.{script_of}
use Rattle.script_model.proofs.Scripts.{script_takes, refused_takes}
use Rattle.script_model.specs.declared.error.ScriptError.{ScriptError}
use Rattle.fault_model.specs.declared.fault.Fault.{Fault}
use Rattle.fault_model.specs.declared.fault.Fault.TheVariants as faults
use Rattle.fault_model.specs.Gives.{Gives}
use Rattle.dev_script.specs.Refused.{NamesRefused}

pub is_found : (bytes : List ℕ) (r : Result Devices (Fault ScriptError)) → Gives (λ d. d) r (script_of bytes) → IfOk r (λ d. ScriptOf bytes d)
is_found bytes (Ok d) given = script_takes bytes d given
is_found bytes (Err e) given = tt

pub is_named : (bytes : List ℕ) (r : Result Devices (Fault ScriptError)) → Gives (λ d. d) r (script_of bytes) → IfErr r (λ e. NamesRefused e bytes)
is_named bytes (Ok d) given = tt
is_named bytes (Err faults.Memory) given = tt
is_named bytes (Err (faults.Bad e)) given = refused_takes bytes e.line given
