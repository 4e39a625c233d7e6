use Rattle.page_tree.proofs.Cuts.{all_block}
use Rattle.page_tree.proofs.block_ref.BlockRef.cut.Goals as goal

pub returns-then-is_all-clause-cut : goal.returns-then-is_all-clause-cut
returns-then-is_all-clause-cut c = all_block c.args.self.now c.args.from c.args.to (c.is_all.ensures c.if-is_all.true)
