use Rattle.schedule_model.proofs.Schedules.{one}
use Rattle.schedule_model.proofs.laws.one_schedule.Goals as goal

pub returns : goal.returns
returns c = λ bytes p q. one bytes p q
