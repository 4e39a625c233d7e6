use Rattle.std.proofs.Common.{sym, subst}
use Rattle.page_tree.specs.Replaceable.{ReplaceableTree, ReplaceableRoot}
use Rattle.page_tree.proofs.Replaced.{root_again}
use Rattle.page_tree.proofs.tree_ref.TreeRef.prepare.Goals as goal

pub returns-in-Own-clause-stays : goal.returns-in-Own-clause-stays
returns-in-Own-clause-stays c page can =
    c.prepare.ensures.stays page (subst (ReplaceableTree page) (sym c.deref_mut.ensures.value) (subst (ReplaceableRoot page) c.in-Own.is (root_again page c.args.self.now c.own.new.self c.in_ok-own.ensures.again can)))

pub returns-in_err-own-clause-stays : goal.returns-in_err-own-clause-stays
returns-in_err-own-clause-stays c page can = subst (ReplaceableRoot page) (sym c.in_err-own.ensures.err) can
