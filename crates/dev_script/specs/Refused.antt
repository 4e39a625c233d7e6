-- The line that the reader of scripts named is the one that the grammar names.
-- Our choice: a restatement for proofs.
use Rattle.std.specs.Prelude.{ℕ, List}
use Rattle.fault_model.specs.declared.fault.Fault.{Fault}
use Rattle.fault_model.specs.declared.fault.Fault.TheVariants as faults
use Rattle.script_model.specs.declared.error.ScriptError.{ScriptError}
use Rattle.script_model.specs.Script.{IsFirstRefused}

-- the line that an error names is the first one of the bytes that is refused
abbrev pub NamesRefused : Fault ScriptError → List ℕ → Type 0
NamesRefused faults.Memory bytes = Unit {0}
NamesRefused (faults.Bad e) bytes = IsFirstRefused bytes e.line
