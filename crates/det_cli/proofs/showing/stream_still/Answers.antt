use Rattle.det_cli.proofs.Shown.{stands_within}
use Rattle.det_cli.proofs.showing.stream_still.Goals as goal

pub returns-in-Demand-clause-stops : goal.returns-in-Demand-clause-stops
returns-in-Demand-clause-stops g c = λ at failed. stands_within _ _ _ at (c.settle_to.ensures.write at failed)

pub returns-in-Rounds-clause-stops : goal.returns-in-Rounds-clause-stops
returns-in-Rounds-clause-stops g c = λ at failed. stands_within _ _ _ at (c.rounds_to.ensures.write at failed)
