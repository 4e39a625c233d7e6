use Rattle.std.proofs.Common.{ℕ, ◌<◌, ◌≤◌, sym, subst, IfSome, IsNone}
use Rattle.page_tree.specs.Blocks.{block_pages, IsBlankIn}
use Rattle.page_tree.specs.BlockRefs.{IsBlankAt}
use Rattle.page_tree.proofs.block_ref.BlockRef.next_used.Goals as goal

pub returns-in-Shared-clause-used : goal.returns-in-Shared-clause-used
returns-in-Shared-clause-used c = subst (λ r. IfSome c.next_used-in-Shared.result (λ j. IsBlankAt r j → ⊥)) (sym c.in-Shared.is) (subst (λ b. IfSome c.next_used-in-Shared.result (λ j. IsBlankIn b j → ⊥)) c.deref-in-Shared.ensures c.next_used-in-Shared.ensures.used)

pub returns-in-Shared-clause-least : goal.returns-in-Shared-clause-least
returns-in-Shared-clause-least c = subst (λ r. IfSome c.next_used-in-Shared.result (λ j. (i : ℕ) → c.args.from ≤ i → i < j → IsBlankAt r i)) (sym c.in-Shared.is) (subst (λ b. IfSome c.next_used-in-Shared.result (λ j. (i : ℕ) → c.args.from ≤ i → i < j → IsBlankIn b i)) c.deref-in-Shared.ensures c.next_used-in-Shared.ensures.least)

pub returns-in-Shared-clause-none : goal.returns-in-Shared-clause-none
returns-in-Shared-clause-none c = subst (λ r. IsNone c.next_used-in-Shared.result → (i : ℕ) → c.args.from ≤ i → i < block_pages → IsBlankAt r i) (sym c.in-Shared.is) (subst (λ b. IsNone c.next_used-in-Shared.result → (i : ℕ) → c.args.from ≤ i → i < block_pages → IsBlankIn b i) c.deref-in-Shared.ensures c.next_used-in-Shared.ensures.none)

pub returns-in-Own-clause-used : goal.returns-in-Own-clause-used
returns-in-Own-clause-used c = subst (λ r. IfSome c.next_used-in-Own.result (λ j. IsBlankAt r j → ⊥)) (sym c.in-Own.is) (subst (λ b. IfSome c.next_used-in-Own.result (λ j. IsBlankIn b j → ⊥)) c.deref-in-Own.ensures c.next_used-in-Own.ensures.used)

pub returns-in-Own-clause-least : goal.returns-in-Own-clause-least
returns-in-Own-clause-least c = subst (λ r. IfSome c.next_used-in-Own.result (λ j. (i : ℕ) → c.args.from ≤ i → i < j → IsBlankAt r i)) (sym c.in-Own.is) (subst (λ b. IfSome c.next_used-in-Own.result (λ j. (i : ℕ) → c.args.from ≤ i → i < j → IsBlankIn b i)) c.deref-in-Own.ensures c.next_used-in-Own.ensures.least)

pub returns-in-Own-clause-none : goal.returns-in-Own-clause-none
returns-in-Own-clause-none c = subst (λ r. IsNone c.next_used-in-Own.result → (i : ℕ) → c.args.from ≤ i → i < block_pages → IsBlankAt r i) (sym c.in-Own.is) (subst (λ b. IsNone c.next_used-in-Own.result → (i : ℕ) → c.args.from ≤ i → i < block_pages → IsBlankIn b i) c.deref-in-Own.ensures c.next_used-in-Own.ensures.none)
