use Rattle.source_model.proofs.Answers.{one-fault}
use Rattle.source_model.proofs.sources.one_fault.Goals as goal

pub returns : goal.returns
returns c = one-fault
