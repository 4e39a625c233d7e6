use Rattle.std.proofs.Common.{sym, subst}
use Rattle.page_tree.specs.Replaceable.{ReplaceableTree, ReplaceableRoot}
use Rattle.page_tree.specs.Ready.{ReadyTree, ReadyRoot}
use Rattle.page_tree.proofs.tree_ref.TreeRef.replace.Goals as goal

pub returns-in-Own-clause-stays : goal.returns-in-Own-clause-stays
returns-in-Own-clause-stays c other can = c.replace.ensures.stays other (subst (ReplaceableTree other) (sym c.deref_mut.ensures.value) (subst (ReplaceableRoot other) c.in-Own.is can))

pub returns-in-Own-clause-range : goal.returns-in-Own-clause-range
returns-in-Own-clause-range c from to ready = c.replace.ensures.range from to (subst (ReadyTree from to) (sym c.deref_mut.ensures.value) (subst (ReadyRoot from to) c.in-Own.is ready))
