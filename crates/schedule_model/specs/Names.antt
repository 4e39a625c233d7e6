-- The line that is named, as text.
-- Our choice: the text.
use Rattle.std.specs.Prelude.{ℕ, List, ◌++◌, codes, decimal}
use Rattle.schedule_model.specs.declared.error.ScheduleError.{ScheduleError}

abbrev pub error_text : ScheduleError → List ℕ
error_text e = codes "line " ++ decimal e.line
