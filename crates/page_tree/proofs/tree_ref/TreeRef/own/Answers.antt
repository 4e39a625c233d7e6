use Rattle.std.proofs.Common.{subst}
use Rattle.page_tree.specs.TreeRefs.{AreWholeRoot}
use Rattle.page_tree.proofs.tree_ref.TreeRef.own.Goals as goal

pub returns-in_err-tree-in-Shared-clause-whole : goal.returns-in_err-tree-in-Shared-clause-whole
returns-in_err-tree-in-Shared-clause-whole c whole = subst AreWholeRoot c.in-Shared.is whole
