use Rattle.det_laws.proofs.Near.{others_stay}
use Rattle.det_laws.proofs.laws.what_a_top_leaves.Goals as goal

pub returns : goal.returns
returns c s p q t away = others_stay p q t s away
