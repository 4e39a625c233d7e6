use Rattle.source_model.proofs.Answers.{reads-sources}
use Rattle.source_model.proofs.sources.reads_exactly_sources.Goals as goal

pub returns : goal.returns
returns c = reads-sources
