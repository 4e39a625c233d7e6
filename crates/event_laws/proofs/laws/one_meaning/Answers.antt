use Rattle.event_laws.proofs.Histories.{one_meaning}
use Rattle.event_laws.proofs.laws.one_meaning.Goals as goal

pub returns : goal.returns
returns c s ps qs p k a b first second = one_meaning qs ps p s k a b first second
