use Rattle.image_symbols.proofs.Faults.{fails_alike}
use Rattle.image_symbols.proofs.labels.source_symbols.Goals as goal
use Rattle.image_symbols.proofs.labels.source_symbols.Goals.{in-Ok+in_ok-labels_in_order-in-Ok, in-Err}

pub returns-clause-rest : goal.returns-clause-rest
returns-clause-rest c = λ e refused. elim c.match-assemble.branch [
  | in-Ok+in_ok-labels_in_order-in-Ok w ↦ (let taken = w.in-Ok.ensures.rest e refused in absurd cc)
  | in-Err w ↦ rw w.result-is (fails_alike _ _ w.in-Err.fault e (w.in-Err.ensures.rest e refused))
]
