use Rattle.quantum_laws.proofs.Between.{snapshots_stay}
use Rattle.quantum_laws.proofs.laws.snapshots_stay.Goals as goal

pub returns : goal.returns
returns c = snapshots_stay
