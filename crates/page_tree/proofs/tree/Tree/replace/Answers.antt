use Rattle.page_tree.proofs.BranchRanges.{replaced_row, replaced_whole}
use Rattle.std.proofs.Common.{◌/◌}
use Rattle.page_tree.proofs.Replaced.{tree_stays}
use Rattle.page_tree.proofs.Replaced.{tree_range}
use Rattle.page_tree.proofs.tree.Tree.replace.Goals as goal

pub returns-clause-replaced : goal.returns-clause-replaced
returns-clause-replaced c = replaced_row c.args.page c.args.kept c.args.self.now c.replace_in_branch.new.self c.replace_in_branch.ensures.others c.replace_in_branch.ensures.replaced

pub returns-clause-whole : goal.returns-clause-whole
returns-clause-whole c kept = replaced_whole c.args.page c.args.self.now c.replace_in_branch.new.self c.replace_in_branch.ensures.others (c.replace_in_branch.ensures.whole kept)

pub returns-clause-stays : goal.returns-clause-stays
returns-clause-stays c other can = tree_stays (c.args.page / 8192) c.args.self.now c.replace_in_branch.new.self c.replace_in_branch.ensures.others c.replace_in_branch.ensures.stays other can

pub returns-clause-range : goal.returns-clause-range
returns-clause-range c = tree_range (c.args.page / 8192) c.args.self.now c.replace_in_branch.new.self c.replace_in_branch.ensures.others c.replace_in_branch.ensures.range
