use Rattle.std.proofs.Common.{sym, subst}
use Rattle.page_tree.specs.Branches.{AreWholeBelow}
use Rattle.page_tree.specs.BranchRefs.{AreWholeLimb}
use Rattle.page_tree.proofs.branch_ref.BranchRef.freeze.Goals as goal

pub returns-in_err-freeze-clause-whole : goal.returns-in_err-freeze-clause-whole
returns-in_err-freeze-clause-whole c whole = c.freeze.ensures.whole (subst AreWholeBelow (sym c.deref_mut.ensures.value) (subst AreWholeLimb c.in-Own.is whole))

pub returns-in_err-shared-clause-whole : goal.returns-in_err-shared-clause-whole
returns-in_err-shared-clause-whole c whole = subst AreWholeBelow (sym c.in_err-shared.ensures.err) (subst AreWholeBelow (sym c.deref_mut-in-Own.ensures.value) (c.freeze.ensures.whole (subst AreWholeBelow (sym c.deref_mut.ensures.value) (subst AreWholeLimb c.in-Own.is whole))))

pub returns-in_ok-shared-clause-whole : goal.returns-in_ok-shared-clause-whole
returns-in_ok-shared-clause-whole c whole = subst AreWholeBelow (sym c.in_ok-shared.ensures.ok) (subst AreWholeBelow (sym c.deref_mut-in-Own.ensures.value) (c.freeze.ensures.whole (subst AreWholeBelow (sym c.deref_mut.ensures.value) (subst AreWholeLimb c.in-Own.is whole))))
