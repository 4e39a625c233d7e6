use Rattle.std.proofs.Common.{sym, subst}
use Rattle.page_tree.specs.Branches.{AreWholeBelow}
use Rattle.page_tree.specs.BranchRefs.{AreWholeLimb}
use Rattle.page_tree.specs.Replaceable.{ReplaceableBelow, ReplaceableLimb}
use Rattle.page_tree.proofs.Replaced.{limb_again}
use Rattle.page_tree.proofs.branch_ref.BranchRef.own_block.Goals as goal

pub returns-in-Own-clause-whole : goal.returns-in-Own-clause-whole
returns-in-Own-clause-whole c whole = c.own_block.ensures.whole (subst AreWholeBelow (sym c.deref_mut.ensures.value) (subst AreWholeLimb c.in-Own.is (c.in_ok-own.ensures.whole whole)))

pub returns-in-Own-clause-stays : goal.returns-in-Own-clause-stays
returns-in-Own-clause-stays c other can =
    c.own_block.ensures.stays other (subst (ReplaceableBelow other) (sym c.deref_mut.ensures.value) (subst (ReplaceableLimb other) c.in-Own.is (limb_again other c.args.self.now c.own.new.self c.in_ok-own.ensures.again can)))

pub returns-in_err-own-clause-stays : goal.returns-in_err-own-clause-stays
returns-in_err-own-clause-stays c other can = subst (ReplaceableLimb other) (sym c.in_err-own.ensures.err) can
