use Rattle.det_laws.specs.Leads.{in_a_row}
use Rattle.det_laws.proofs.Local.{local_events, leads_may}
use Rattle.det_laws.proofs.laws.local_events.Goals as goal

pub returns-clause-may : goal.returns-clause-may
returns-clause-may c s d p n t is goes = (leads_may (in_a_row n p) s _ (local_events n p 8 s d t is goes)).0

pub returns-clause-last : goal.returns-clause-last
returns-clause-last c s d p n t is goes = (leads_may (in_a_row n p) s _ (local_events n p 8 s d t is goes)).1
