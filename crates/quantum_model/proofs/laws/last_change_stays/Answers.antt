use Rattle.quantum_model.proofs.Commits.{last_decides, unchanged}
use Rattle.quantum_model.proofs.laws.last_change_stays.Goals as goal

pub returns-clause-last : goal.returns-clause-last
returns-clause-last c = last_decides

pub returns-clause-none : goal.returns-clause-none
returns-clause-none c = unchanged
