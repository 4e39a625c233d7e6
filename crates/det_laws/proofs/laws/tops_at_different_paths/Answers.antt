use Rattle.det_laws.proofs.Tops.{tops_pass, top_other}
use Rattle.det_laws.proofs.laws.tops_at_different_paths.Goals as goal

pub returns-clause-one_tree : goal.returns-clause-one_tree
returns-clause-one_tree c s p q t u ne = tops_pass p q t u s ne

pub returns-clause-other_stays : goal.returns-clause-other_stays
returns-clause-other_stays c s p q t ne = top_other p q t s ne
