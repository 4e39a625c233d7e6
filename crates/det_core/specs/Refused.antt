-- The line that the reader of schedules named is the one that the grammar names.
-- Our choice: a restatement for proofs.
use Rattle.std.specs.Prelude.{ℕ, List}
use Rattle.fault_model.specs.declared.fault.Fault.{Fault}
use Rattle.fault_model.specs.declared.fault.Fault.TheVariants as faults
use Rattle.schedule_model.specs.declared.error.ScheduleError.{ScheduleError}
use Rattle.schedule_model.specs.Schedule.{IsFirstRefused}

-- the line that an error names is the first one of the bytes that is refused
abbrev pub NamesRefused : Fault ScheduleError → List ℕ → Type 0
NamesRefused faults.Memory bytes = Unit {0}
NamesRefused (faults.Bad e) bytes = IsFirstRefused bytes e.line
