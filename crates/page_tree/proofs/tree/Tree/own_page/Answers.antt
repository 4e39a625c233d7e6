use Rattle.std.proofs.Common.{arith, ◌/◌}
use Rattle.page_tree.proofs.Limbs.{at_error, own_set, owned_set}
use Rattle.page_tree.proofs.tree.Tree.own_page.Goals as goal

pub returns-clause-owned : goal.returns-clause-owned
returns-clause-owned c = owned_set c.args.self.now.branches c.args.page c.index-self-page.result c.own_page.new.self (omega (arith, c.requires)) c.in_ok-own_page.ensures.owned

pub returns-in_err-own_page-clause-err : goal.returns-in_err-own_page-clause-err
returns-in_err-own_page-clause-err c = at_error c.from_residual.result _ (λ q below. own_set c.args.self.now.branches (c.args.page / 8192) c.index-self-page.result c.own_page.new.self (omega (arith, c.requires)) c.in_err-own_page.ensures.err q)
