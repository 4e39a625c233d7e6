use Rattle.event_laws.proofs.Histories.{entry_of, is_own}
use Rattle.event_laws.proofs.laws.entries.Goals as goal

pub returns-clause-is_entry : goal.returns-clause-is_entry
returns-clause-is_entry c s ps p k e is = entry_of ps s p k e is

pub returns-clause-is_own : goal.returns-clause-is_own
returns-clause-is_own c s earlier later p may = is_own earlier later p s may
