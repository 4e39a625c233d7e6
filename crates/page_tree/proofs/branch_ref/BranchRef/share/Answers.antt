use Rattle.std.proofs.Common.{sym, subst}
use Rattle.page_tree.specs.Branches.{AreWholeBelow}
use Rattle.page_tree.specs.BranchRefs.{AreWholeLimb}
use Rattle.page_tree.proofs.branch_ref.BranchRef.share.Goals as goal

pub returns-in_ok-try_clone-in-Shared-clause-whole : goal.returns-in_ok-try_clone-in-Shared-clause-whole
returns-in_ok-try_clone-in-Shared-clause-whole c whole = subst AreWholeBelow (sym c.in_ok-try_clone-in-Shared.ensures) (subst AreWholeLimb c.in-Shared.is whole)
