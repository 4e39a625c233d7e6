use Rattle.std.proofs.Common.{subst}
use Rattle.page_tree.specs.BranchRefs.{AreWholeLimb}
use Rattle.page_tree.proofs.branch_ref.BranchRef.settle.Goals as goal

pub returns-in_default-one_permission-clause-whole : goal.returns-in_default-one_permission-clause-whole
returns-in_default-one_permission-clause-whole c whole = subst AreWholeLimb c.in-Own.is whole
