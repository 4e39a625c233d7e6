use Rattle.link_model.proofs.Carrying.{goes_over}
use Rattle.link_model.proofs.laws.goes_over.Goals as goal

pub returns : goal.returns
returns c = goes_over
