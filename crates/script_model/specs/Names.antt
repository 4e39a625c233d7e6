-- The line that is named, as text.
-- Our choice: the text.
use Rattle.std.specs.Prelude.{ℕ, List, ◌++◌, codes, decimal}
use Rattle.script_model.specs.declared.error.ScriptError.{ScriptError}

abbrev pub error_text : ScriptError → List ℕ
error_text e = codes "line " ++ decimal e.line
