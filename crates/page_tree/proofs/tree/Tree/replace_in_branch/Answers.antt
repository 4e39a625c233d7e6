use Rattle.std.proofs.Common.{arith}
use Rattle.page_tree.proofs.Replaced.{limb_set}
use Rattle.page_tree.specs.Ready.{ReadyLimb}
use Rattle.page_tree.proofs.Replaced.{one_set}
use Rattle.page_tree.proofs.tree.Tree.replace_in_branch.Goals as goal

pub returns-clause-stays : goal.returns-clause-stays
returns-clause-stays c other can = limb_set c.args.self.now.branches c.args.i c.index-self-i.result c.replace.new.self (omega (arith, c.requires.branch)) c.replace.ensures.stays other c.args.i can

pub returns-clause-range : goal.returns-clause-range
returns-clause-range c from to = one_set (ReadyLimb from to) c.args.self.now.branches c.args.i c.index-self-i.result c.replace.new.self (omega (arith, c.requires.branch)) (c.replace.ensures.range from to)
