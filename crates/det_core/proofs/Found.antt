-- What reading gives is in the grammar, and the line that it names is the first one that is refused.
use Rattle.std.proofs.Common.{ℕ, List, Result, Ok, Err}
use Rattle.std.specs.Prelude.{IfOk, IfErr}
use Rattle.schedule_model.specs.Schedule.{ScheduleOf}
use Rattle.schedule_model.specs.Reading.{schedule_of}
use Rattle.schedule_model.proofs.Schedules.{schedule_takes, refused_takes}
use Rattle.schedule_model.specs.declared.error.ScheduleError.{ScheduleError}
use Rattle.fault_model.specs.declared.fault.Fault.{Fault}
use Rattle.fault_model.specs.declared.fault.Fault.TheVariants as faults
use Rattle.fault_model.specs.Gives.{Gives}
use Rattle.det_core.specs.Refused.{NamesRefused}

pub is_found : {X : Type 0} (view : X → List (List ℕ)) (bytes : List ℕ) (r : Result X (Fault ScheduleError)) → Gives view r (schedule_of bytes) → IfOk r (λ x. ScheduleOf bytes (view x))
is_found view bytes (Ok x) given = schedule_takes bytes (view x) given
is_found view bytes (Err e) given = tt

pub is_named : {X : Type 0} (view : X → List (List ℕ)) (bytes : List ℕ) (r : Result X (Fault ScheduleError)) → Gives view r (schedule_of bytes) → IfErr r (λ e. NamesRefused e bytes)
is_named view bytes (Ok x) given = tt
is_named view bytes (Err faults.Memory) given = tt
is_named view bytes (Err (faults.Bad e)) given = refused_takes bytes e.line given
