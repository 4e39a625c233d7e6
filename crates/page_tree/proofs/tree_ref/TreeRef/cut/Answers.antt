use Rattle.page_tree.proofs.Cuts.{all_root}
use Rattle.page_tree.proofs.tree_ref.TreeRef.cut.Goals as goal

pub returns-then-is_all-clause-cut : goal.returns-then-is_all-clause-cut
returns-then-is_all-clause-cut c = all_root c.args.self.now c.args.from c.args.to (c.is_all.ensures c.if-is_all.true)
