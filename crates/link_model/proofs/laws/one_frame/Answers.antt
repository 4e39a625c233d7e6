use Rattle.link_model.proofs.Frames.{one}
use Rattle.link_model.proofs.laws.one_frame.Goals as goal

pub returns : goal.returns
returns c = one
