use Rattle.std.proofs.Common.{◌≡◌, ℕ, ◌/◌, ◌%◌, ◌<◌, length, ◌∙◌, ap, sym, subst, arith, get_or}
use Rattle.std.proofs.lemmas.List.{get_or_default}
use Rattle.page_tree.specs.declared.block_ref.BlockRef.{BlockRef}
use Rattle.page_tree.specs.declared.block_ref.BlockRef.TheVariants.{Uniform}
use Rattle.page_tree.specs.declared.branch.Branch.{Branch}
use Rattle.page_tree.specs.Rows.{IsBlankPage}
use Rattle.page_tree.specs.BlockRefs.{ref_row}
use Rattle.page_tree.specs.Branches.{branch_row}
use Rattle.page_tree.proofs.branch.Branch.next_used_in.Goals as goal

-- a page that is blank in its block is blank in the branch
blank_in : (b : Branch) (i q : ℕ) (d : BlockRef) → i < length b.blocks → q / 64 ≡ i → IsBlankPage (ref_row (get_or b.blocks i d)) (q % 64) → IsBlankPage (branch_row b) q
blank_in b i q d within here blank =
    let kept : get_or b.blocks i d ≡ get_or b.blocks (q / 64) (Uniform 0) = get_or_default b.blocks i d (Uniform 0) within ∙ ap (λ n. get_or b.blocks n (Uniform 0)) (sym here) in
    subst (λ x. IsBlankPage (ref_row x) (q % 64)) kept blank

pub returns-in-Some-clause-least : goal.returns-in-Some-clause-least
returns-in-Some-clause-least c q from here below = blank_in c.args.self.now c.args.i q c.index-self-i.result (omega arith) here (c.in-Some.ensures.least (q % 64) (omega arith) (omega arith))

pub returns-in-None-clause-none : goal.returns-in-None-clause-none
returns-in-None-clause-none c none q from here = blank_in c.args.self.now c.args.i q c.index-self-i.result (omega arith) here (c.in-None.ensures.none none (q % 64) (omega arith) (omega arith))
