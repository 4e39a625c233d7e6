use Rattle.std.proofs.Common.{ap, arith, ◌/◌}
use Rattle.page_tree.specs.BlockRefs.{ref_own}
use Rattle.page_tree.proofs.Children.{own_set}
use Rattle.std.proofs.Common.{subst, sym}
use Rattle.page_tree.specs.BlockRefs.{IsOwnBlock}
use Rattle.page_tree.proofs.Replaced.{block_set}
use Rattle.page_tree.proofs.branch.Branch.own_block.Goals as goal

pub returns-clause-own : goal.returns-clause-own
returns-clause-own c q below = own_set c.args.self.now.blocks (c.args.page / 64) c.index-self-page.result c.own.new.self (omega (arith, c.requires)) c.in_ok-own.ensures.owned q

pub returns-in_err-own-clause-own : goal.returns-in_err-own-clause-own
returns-in_err-own-clause-own c q below = own_set c.args.self.now.blocks (c.args.page / 64) c.index-self-page.result c.own.new.self (omega (arith, c.requires)) (λ j low. ap (λ r. ref_own r j) c.in_err-own.ensures.err) q

pub returns-clause-stays : goal.returns-clause-stays
returns-clause-stays c other can = block_set c.args.self.now.blocks (c.args.page / 64) c.index-self-page.result c.own.new.self (omega (arith, c.requires)) (λ _. c.in_ok-own.ensures.own) (other / 64) can

pub returns-in_err-own-clause-stays : goal.returns-in_err-own-clause-stays
returns-in_err-own-clause-stays c other can = block_set c.args.self.now.blocks (c.args.page / 64) c.index-self-page.result c.own.new.self (omega (arith, c.requires)) (λ own. subst IsOwnBlock (sym c.in_err-own.ensures.err) own) (other / 64) can
