use Rattle.std.proofs.Common.{sym, subst}
use Rattle.page_tree.specs.Trees.{AreWholeTree}
use Rattle.page_tree.specs.TreeRefs.{AreWholeRoot}
use Rattle.page_tree.proofs.tree_ref.TreeRef.freeze_range.Goals as goal

pub returns-in-Own-clause-whole : goal.returns-in-Own-clause-whole
returns-in-Own-clause-whole c whole = c.freeze_range.ensures.whole (subst AreWholeTree (sym c.deref_mut.ensures.value) (subst AreWholeRoot c.in-Own.is whole))
