use Rattle.quantum_laws.proofs.Around.{commits_anywhere}
use Rattle.quantum_laws.proofs.laws.commits_anywhere.Goals as goal

pub returns : goal.returns
returns c = commits_anywhere 8
