use Rattle.std.proofs.Common.{arith, ◌/◌}
use Rattle.page_tree.proofs.Limbs.{own_set}
use Rattle.std.proofs.Common.{◌%◌}
use Rattle.page_tree.proofs.Replaced.{limb_set}
use Rattle.page_tree.proofs.tree.Tree.own_block.Goals as goal

pub returns-clause-own : goal.returns-clause-own
returns-clause-own c q below = own_set c.args.self.now.branches (c.args.page / 8192) c.index-self-page.result c.own_block.new.self (omega (arith, c.requires)) c.in_ok-own_block.ensures.own q

pub returns-in_err-own_block-clause-own : goal.returns-in_err-own_block-clause-own
returns-in_err-own_block-clause-own c q below = own_set c.args.self.now.branches (c.args.page / 8192) c.index-self-page.result c.own_block.new.self (omega (arith, c.requires)) (c.in_err-own_block.ensures.own) q

pub returns-clause-stays : goal.returns-clause-stays
returns-clause-stays c other can = limb_set c.args.self.now.branches (c.args.page / 8192) c.index-self-page.result c.own_block.new.self (omega (arith, c.requires)) c.in_ok-own_block.ensures.stays (other % 8192) (other / 8192) can

pub returns-in_err-own_block-clause-stays : goal.returns-in_err-own_block-clause-stays
returns-in_err-own_block-clause-stays c other can = limb_set c.args.self.now.branches (c.args.page / 8192) c.index-self-page.result c.own_block.new.self (omega (arith, c.requires)) c.in_err-own_block.ensures.stays (other % 8192) (other / 8192) can
