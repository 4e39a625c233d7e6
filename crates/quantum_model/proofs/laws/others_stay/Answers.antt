use Rattle.quantum_model.proofs.Commits.{beyond, same_permissions}
use Rattle.quantum_model.proofs.laws.others_stay.Goals as goal

pub returns-clause-bytes : goal.returns-clause-bytes
returns-clause-bytes c = beyond

pub returns-clause-permissions : goal.returns-clause-permissions
returns-clause-permissions c = same_permissions
