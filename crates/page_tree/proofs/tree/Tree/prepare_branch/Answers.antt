use Rattle.std.proofs.Common.{arith}
use Rattle.page_tree.specs.Replaceable.{ReplaceableLimb}
use Rattle.page_tree.proofs.Replaced.{one_set}
use Rattle.page_tree.proofs.tree.Tree.prepare_branch.Goals as goal

pub returns-clause-stays : goal.returns-clause-stays
returns-clause-stays c page = one_set (ReplaceableLimb page) c.args.self.now.branches c.args.i c.index-self-i.result c.prepare.new.self (omega (arith, c.requires.branch)) (c.prepare.ensures.stays page)
