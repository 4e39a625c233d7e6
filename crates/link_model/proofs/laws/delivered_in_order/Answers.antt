use Rattle.link_model.proofs.Links.{in_order}
use Rattle.link_model.proofs.laws.delivered_in_order.Goals as goal

pub returns : goal.returns
returns c = in_order
