use Rattle.schedule_model.proofs.Schedules.{refuses_the_rest}
use Rattle.schedule_model.proofs.laws.refuses_exactly_the_rest.Goals as goal

pub returns : goal.returns
returns c = refuses_the_rest
