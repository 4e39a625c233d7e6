use Rattle.std.proofs.Common.{◌≡◌, ℕ, ◌/◌, ◌%◌, ◌<◌, length, ◌∙◌, ap, sym, subst, arith, get_or}
use Rattle.std.proofs.lemmas.List.{get_or_default}
use Rattle.page_tree.specs.declared.branch_ref.BranchRef.{BranchRef}
use Rattle.page_tree.specs.declared.branch_ref.BranchRef.TheVariants.{Uniform}
use Rattle.page_tree.specs.declared.tree.Tree.{Tree}
use Rattle.page_tree.specs.Rows.{IsBlankPage}
use Rattle.page_tree.specs.BranchRefs.{limb_row}
use Rattle.page_tree.specs.Trees.{tree_row}
use Rattle.page_tree.proofs.tree.Tree.next_used_in.Goals as goal

-- a page that is blank in its branch is blank in the tree
blank_in : (b : Tree) (i q : ℕ) (d : BranchRef) → i < length b.branches → q / 8192 ≡ i → IsBlankPage (limb_row (get_or b.branches i d)) (q % 8192) → IsBlankPage (tree_row b) q
blank_in b i q d within here blank =
    let kept : get_or b.branches i d ≡ get_or b.branches (q / 8192) (Uniform 0) = get_or_default b.branches i d (Uniform 0) within ∙ ap (λ n. get_or b.branches n (Uniform 0)) (sym here) in
    subst (λ x. IsBlankPage (limb_row x) (q % 8192)) kept blank

pub returns-in-Some-clause-least : goal.returns-in-Some-clause-least
returns-in-Some-clause-least c q from here below = blank_in c.args.self.now c.args.i q c.index-self-i.result (omega arith) here (c.in-Some.ensures.least (q % 8192) (omega arith) (omega arith))

pub returns-in-None-clause-none : goal.returns-in-None-clause-none
returns-in-None-clause-none c none q from here = blank_in c.args.self.now c.args.i q c.index-self-i.result (omega arith) here (c.in-None.ensures.none none (q % 8192) (omega arith) (omega arith))
