use Rattle.source_model.proofs.Answers.{one-image}
use Rattle.source_model.proofs.sources.one_image.Goals as goal

pub returns : goal.returns
returns c = one-image
