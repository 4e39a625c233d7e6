use Rattle.page_tree.proofs.BlockRanges.{replaced_row, replaced_whole}
use Rattle.std.proofs.Common.{◌/◌}
use Rattle.page_tree.proofs.Replaced.{below_stays}
use Rattle.page_tree.proofs.Replaced.{below_range}
use Rattle.page_tree.proofs.branch.Branch.replace.Goals as goal

pub returns-clause-replaced : goal.returns-clause-replaced
returns-clause-replaced c = replaced_row c.args.page c.args.kept c.args.self.now c.replace_in_block.new.self c.replace_in_block.ensures.others c.replace_in_block.ensures.replaced

pub returns-clause-whole : goal.returns-clause-whole
returns-clause-whole c kept = replaced_whole c.args.page c.args.self.now c.replace_in_block.new.self c.replace_in_block.ensures.others (c.replace_in_block.ensures.whole kept)

pub returns-clause-stays : goal.returns-clause-stays
returns-clause-stays c other can = below_stays (c.args.page / 64) c.args.self.now c.replace_in_block.new.self c.replace_in_block.ensures.others c.replace_in_block.ensures.ready other can

pub returns-clause-range : goal.returns-clause-range
returns-clause-range c = below_range (c.args.page / 64) c.args.self.now c.replace_in_block.new.self c.replace_in_block.ensures.others c.replace_in_block.ensures.ready
