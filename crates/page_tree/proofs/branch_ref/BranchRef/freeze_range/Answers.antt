use Rattle.std.proofs.Common.{sym, subst}
use Rattle.page_tree.specs.Branches.{AreWholeBelow}
use Rattle.page_tree.specs.BranchRefs.{AreWholeLimb}
use Rattle.page_tree.proofs.branch_ref.BranchRef.freeze_range.Goals as goal

pub returns-in-Own-clause-whole : goal.returns-in-Own-clause-whole
returns-in-Own-clause-whole c whole = c.freeze_range.ensures.whole (subst AreWholeBelow (sym c.deref_mut.ensures.value) (subst AreWholeLimb c.in-Own.is whole))
