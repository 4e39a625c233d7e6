use Rattle.quantum_laws.proofs.Around.{snapshots_stay_anywhere}
use Rattle.quantum_laws.proofs.laws.snapshots_stay_anywhere.Goals as goal

pub returns : goal.returns
returns c = snapshots_stay_anywhere 8
