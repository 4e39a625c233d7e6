use Rattle.std.proofs.Common.{sym, subst}
use Rattle.page_tree.specs.Trees.{AreWholeTree}
use Rattle.page_tree.specs.TreeRefs.{AreWholeRoot}
use Rattle.page_tree.proofs.tree_ref.TreeRef.share.Goals as goal

pub returns-in_ok-try_clone-in-Shared-clause-whole : goal.returns-in_ok-try_clone-in-Shared-clause-whole
returns-in_ok-try_clone-in-Shared-clause-whole c whole = subst AreWholeTree (sym c.in_ok-try_clone-in-Shared.ensures) (subst AreWholeRoot c.in-Shared.is whole)
