use Rattle.page_tree.specs.BranchRefs.{SameLimb}
use Rattle.page_tree.specs.Trees.{branch_at, tree_row}
use Rattle.page_tree.specs.Branchwise.{IsBranchOf}
use Rattle.page_tree.proofs.Blockwise.{branch_of, ok_too}
use Rattle.page_tree.proofs.tree.Tree.share_branch.Goals as goal

pub returns-clause-same : goal.returns-clause-same
returns-clause-same c =
    let t = c.args.self.now in
    let i = c.args.i in
    ok_too c.share_at.result (SameLimb (branch_at t i)) (IsBranchOf (tree_row t) i) (branch_of t i) c.share_at.ensures.same
