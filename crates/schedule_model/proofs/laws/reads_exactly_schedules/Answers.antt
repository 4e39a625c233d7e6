use Rattle.schedule_model.proofs.Schedules.{schedule_takes, schedule_again}
use Rattle.schedule_model.proofs.laws.reads_exactly_schedules.Goals as goal

pub returns : goal.returns
returns c = λ bytes paths. (schedule_takes bytes paths, schedule_again bytes paths)
