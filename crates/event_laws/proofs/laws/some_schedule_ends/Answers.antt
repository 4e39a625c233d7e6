use Rattle.event_laws.proofs.Endings.{some_ends}
use Rattle.event_laws.proofs.laws.some_schedule_ends.Goals as goal

pub returns : goal.returns
returns c s sound = some_ends s sound
