use Rattle.quantum_model.proofs.Commits.{in_parts}
use Rattle.quantum_model.proofs.laws.commits_in_parts.Goals as goal

pub returns : goal.returns
returns c = in_parts
