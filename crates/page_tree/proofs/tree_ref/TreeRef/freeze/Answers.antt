use Rattle.std.proofs.Common.{sym, subst}
use Rattle.page_tree.specs.Trees.{AreWholeTree}
use Rattle.page_tree.specs.TreeRefs.{AreWholeRoot}
use Rattle.page_tree.proofs.tree_ref.TreeRef.freeze.Goals as goal

pub returns-in_err-freeze-clause-whole : goal.returns-in_err-freeze-clause-whole
returns-in_err-freeze-clause-whole c whole = c.freeze.ensures.whole (subst AreWholeTree (sym c.deref_mut.ensures.value) (subst AreWholeRoot c.in-Own.is whole))

pub returns-in_err-shared-clause-whole : goal.returns-in_err-shared-clause-whole
returns-in_err-shared-clause-whole c whole = subst AreWholeTree (sym c.in_err-shared.ensures.err) (subst AreWholeTree (sym c.deref_mut-in-Own.ensures.value) (c.freeze.ensures.whole (subst AreWholeTree (sym c.deref_mut.ensures.value) (subst AreWholeRoot c.in-Own.is whole))))

pub returns-in_ok-shared-clause-whole : goal.returns-in_ok-shared-clause-whole
returns-in_ok-shared-clause-whole c whole = subst AreWholeTree (sym c.in_ok-shared.ensures.ok) (subst AreWholeTree (sym c.deref_mut-in-Own.ensures.value) (c.freeze.ensures.whole (subst AreWholeTree (sym c.deref_mut.ensures.value) (subst AreWholeRoot c.in-Own.is whole))))
