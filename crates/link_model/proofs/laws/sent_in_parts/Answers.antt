use Rattle.link_model.proofs.Links.{in_parts}
use Rattle.link_model.proofs.laws.sent_in_parts.Goals as goal

pub returns : goal.returns
returns c = in_parts
