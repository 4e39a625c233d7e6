use Rattle.event_laws.proofs.Histories.{has_all, all_alike}
use Rattle.event_laws.proofs.laws.ended_schedules.Goals as goal

pub returns-clause-has_it : goal.returns-clause-has_it
returns-clause-has_it c s ps qs p k e ended is = has_all qs ps p s ended k e is

pub returns-clause-alike : goal.returns-clause-alike
returns-clause-alike c s ps qs p ended also = all_alike ps qs p s ended also
