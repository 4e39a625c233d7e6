use Rattle.std.proofs.Common.{◌/◌, ◌%◌, arith, get_or}
use Rattle.page_tree.specs.BranchRefs.{limb_row}
use Rattle.page_tree.specs.Trees.{tree_row}
use Rattle.page_tree.specs.Blockwise.{IsBlockOf}
use Rattle.page_tree.proofs.Blockwise.{block_at_index, ok_too}
use Rattle.page_tree.proofs.tree.Tree.share_block.Goals as goal

pub returns-clause-same : goal.returns-clause-same
returns-clause-same c =
    let t = c.args.self.now in
    let i = c.args.i in
    ok_too c.share_block.result (λ block. IsBlockOf (limb_row (get_or t.branches (i / 128) c.index-self-i.result)) (i % 128) block) (λ block. IsBlockOf (tree_row t) i block)
    (λ block one. block_at_index t i c.index-self-i.result block (omega (arith, c.requires)) one) c.share_block.ensures.same
