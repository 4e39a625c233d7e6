use Rattle.std.proofs.Common.{sym, subst}
use Rattle.page_tree.specs.Replaceable.{ReplaceableBelow, ReplaceableLimb}
use Rattle.page_tree.specs.Ready.{ReadyBranch, ReadyLimb}
use Rattle.page_tree.proofs.branch_ref.BranchRef.replace.Goals as goal

pub returns-in-Own-clause-stays : goal.returns-in-Own-clause-stays
returns-in-Own-clause-stays c other can = c.replace.ensures.stays other (subst (ReplaceableBelow other) (sym c.deref_mut.ensures.value) (subst (ReplaceableLimb other) c.in-Own.is can))

pub returns-in-Own-clause-range : goal.returns-in-Own-clause-range
returns-in-Own-clause-range c from to ready = c.replace.ensures.range from to (subst (ReadyBranch from to) (sym c.deref_mut.ensures.value) (subst (ReadyLimb from to) c.in-Own.is ready))
