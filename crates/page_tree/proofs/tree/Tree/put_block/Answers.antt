use Rattle.page_tree.proofs.Blockwise.{put_in_tree}
use Rattle.page_tree.proofs.tree.Tree.put_block.Goals as goal

pub returns-clause-put : goal.returns-clause-put
returns-clause-put c = put_in_tree c.args.self.now c.put_in_branch.new.self c.args.i c.args.block c.put_in_branch.ensures.others c.put_in_branch.ensures.put
