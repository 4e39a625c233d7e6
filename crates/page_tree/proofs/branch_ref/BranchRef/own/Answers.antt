use Rattle.std.proofs.Common.{subst}
use Rattle.page_tree.specs.BranchRefs.{AreWholeLimb}
use Rattle.page_tree.proofs.branch_ref.BranchRef.own.Goals as goal

pub returns-in_err-branch-in-Shared-clause-whole : goal.returns-in_err-branch-in-Shared-clause-whole
returns-in_err-branch-in-Shared-clause-whole c whole = subst AreWholeLimb c.in-Shared.is whole
