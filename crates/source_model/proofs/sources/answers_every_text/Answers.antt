use Rattle.source_model.proofs.Answers.{answers}
use Rattle.source_model.proofs.sources.answers_every_text.Goals as goal

pub returns : goal.returns
returns c = answers
