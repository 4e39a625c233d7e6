use Rattle.std.proofs.Common.{sym, subst, IfSome}
use Rattle.page_tree.specs.Rows.{IsBlankPage}
use Rattle.page_tree.specs.Trees.{tree_row}
use Rattle.page_tree.specs.TreeRefs.{root_row}
use Rattle.page_tree.proofs.tree_ref.TreeRef.next_used.Goals as goal

pub returns-in-Shared-clause-used : goal.returns-in-Shared-clause-used
returns-in-Shared-clause-used c = subst (λ r. IfSome c.next_used.result (λ p. IsBlankPage (root_row r) p → ⊥)) (sym c.in-Shared.is) (subst (λ b. IfSome c.next_used.result (λ p. IsBlankPage (tree_row b) p → ⊥)) c.deref.ensures c.next_used.ensures.used)

pub returns-in-Own-clause-used : goal.returns-in-Own-clause-used
returns-in-Own-clause-used c = subst (λ r. IfSome c.next_used-in-Own.result (λ p. IsBlankPage (root_row r) p → ⊥)) (sym c.in-Own.is) (subst (λ b. IfSome c.next_used-in-Own.result (λ p. IsBlankPage (tree_row b) p → ⊥)) c.deref-in-Own.ensures c.next_used-in-Own.ensures.used)
