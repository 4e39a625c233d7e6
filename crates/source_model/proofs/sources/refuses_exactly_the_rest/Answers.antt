use Rattle.source_model.proofs.Answers.{reads-faults}
use Rattle.source_model.proofs.sources.refuses_exactly_the_rest.Goals as goal

pub returns : goal.returns
returns c = reads-faults
