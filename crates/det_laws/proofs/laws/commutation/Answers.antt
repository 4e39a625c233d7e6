use Rattle.det_laws.proofs.Commutes.{pass_one_another}
use Rattle.det_laws.proofs.laws.commutation.Goals as goal

pub returns-clause-stays_enabled : goal.returns-clause-stays_enabled
returns-clause-stays_enabled c s p q ne a b = (pass_one_another p q 8 s ne a b).0

pub returns-clause-one_tree : goal.returns-clause-one_tree
returns-clause-one_tree c s p q ne a b = (pass_one_another p q 8 s ne a b).2
