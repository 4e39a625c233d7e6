use Rattle.std.proofs.Common.{sym, subst}
use Rattle.page_tree.specs.Trees.{AreWholeTree}
use Rattle.page_tree.specs.TreeRefs.{AreWholeRoot}
use Rattle.page_tree.specs.Replaceable.{ReplaceableTree, ReplaceableRoot}
use Rattle.page_tree.proofs.Replaced.{root_again}
use Rattle.page_tree.proofs.tree_ref.TreeRef.own_block.Goals as goal

pub returns-in-Own-clause-whole : goal.returns-in-Own-clause-whole
returns-in-Own-clause-whole c whole = c.own_block.ensures.whole (subst AreWholeTree (sym c.deref_mut.ensures.value) (subst AreWholeRoot c.in-Own.is (c.in_ok-own.ensures.whole whole)))

pub returns-in-Own-clause-stays : goal.returns-in-Own-clause-stays
returns-in-Own-clause-stays c other can =
    c.own_block.ensures.stays other (subst (ReplaceableTree other) (sym c.deref_mut.ensures.value) (subst (ReplaceableRoot other) c.in-Own.is (root_again other c.args.self.now c.own.new.self c.in_ok-own.ensures.again can)))

pub returns-in_err-own-clause-stays : goal.returns-in_err-own-clause-stays
returns-in_err-own-clause-stays c other can = subst (ReplaceableRoot other) (sym c.in_err-own.ensures.err) can
