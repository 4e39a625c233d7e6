use Rattle.quantum_laws.proofs.Between.{commits_what_was_written}
use Rattle.quantum_laws.proofs.laws.commits_what_was_written.Goals as goal

pub returns : goal.returns
returns c = commits_what_was_written
