use Rattle.std.proofs.Common.{true, sym, ◌∙◌}
use Rattle.det_laws.proofs.Reaching.{event_counts}
use Rattle.det_laws.proofs.Ending.{counted, all_happen, as_many, ends}
use Rattle.det_laws.proofs.laws.one_length.Goals as goal

pub returns-clause-one_fewer : goal.returns-clause-one_fewer
returns-clause-one_fewer c s p sound may = (event_counts p 8 true sound.0 s sound.1.2 may).1

pub returns-clause-counted : goal.returns-clause-counted
returns-clause-counted c s ps sound = counted ps sound.0 s sound.1.2

pub returns-clause-as_many : goal.returns-clause-as_many
returns-clause-as_many c s ps sound none = as_many ps sound.0 s sound.1.2 none

pub returns-clause-as_long : goal.returns-clause-as_long
returns-clause-as_long c s ps sound all none = sym (all_happen ps s all) ∙ as_many ps sound.0 s sound.1.2 none

pub returns-clause-one_end : goal.returns-clause-one_end
returns-clause-one_end c s ps sound none = ends ps sound.0 s sound.1.2 none
