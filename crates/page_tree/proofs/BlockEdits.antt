-- What an edit of a page's bytes in one block does to a branch.
use Rattle.std.specs.Prelude.{◌≡◌, ℕ, ◌/◌, ◌%◌, ◌<◌, List, length}
use Rattle.std.proofs.Common.{◌∙◌, ap, sym, arith, subst, inl, inr, get_or, set}
use Rattle.std.proofs.lemmas.Bool.{cases_eq}
use Rattle.std.proofs.lemmas.List.{get_or-set_same, get_or-set_other, get_or_default}
use Rattle.page_tree.specs.declared.block_ref.BlockRef.{BlockRef}
use Rattle.page_tree.specs.declared.block_ref.BlockRef.TheVariants.{Uniform}
use Rattle.page_tree.specs.Blocks.{bytes_in}
use Rattle.page_tree.specs.Rows.{IsEditedRow}
use Rattle.page_tree.specs.BlockRefs.{ref_permission, ref_page, ref_own, ref_row}
use Rattle.page_tree.specs.Branches.{branch_row}

-- the bytes of one page are edited in its block
pub edited_set : (bs : List BlockRef) (p : ℕ) (d s : BlockRef) (edit : List ℕ → List ℕ) → p / 64 < length bs → IsEditedRow 64 (p % 64) edit (ref_row (get_or bs (p / 64) d)) (ref_row s)
    → IsEditedRow 8192 p edit (branch_row (record { blocks = bs })) (branch_row (record { blocks = set bs (p / 64) s }))
edited_set bs p d s edit within one =
    let i : ℕ = p / 64 in
    let was : get_or bs i d ≡ get_or bs i (Uniform 0) = get_or_default bs i d (Uniform 0) within in
    let now : get_or (set bs i s) i (Uniform 0) ≡ s = get_or-set_same bs i s (Uniform 0) within in
    let out : (q : ℕ) → (q / 64 ≡ i → ⊥) → get_or (set bs i s) (q / 64) (Uniform 0) ≡ get_or bs (q / 64) (Uniform 0) = λ q ne. get_or-set_other bs i (q / 64) s (Uniform 0) ne in
    record {
      permission = λ q below. elim (cases_eq (q / 64) i) [
        | inl here ↦ subst (λ k. ref_permission (get_or (set bs i s) k (Uniform 0)) (q % 64) ≡ ref_permission (get_or bs k (Uniform 0)) (q % 64)) (sym here) (ap (λ r. ref_permission r (q % 64)) now ∙ one.permission (q % 64) (omega arith) ∙ ap (λ r. ref_permission r (q % 64)) was)
        | inr there ↦ ap (λ r. ref_permission r (q % 64)) (out q there)
      ];
      other = λ q below ne. elim (cases_eq (q / 64) i) [
        | inl here ↦ subst (λ k. ref_page (get_or (set bs i s) k (Uniform 0)) (q % 64) ≡ ref_page (get_or bs k (Uniform 0)) (q % 64)) (sym here) (ap (λ r. ref_page r (q % 64)) now ∙ one.other (q % 64) (omega arith) (λ e. ne (omega arith)) ∙ ap (λ r. ref_page r (q % 64)) was)
        | inr there ↦ ap (λ r. ref_page r (q % 64)) (out q there)
      ];
      own = λ q below. elim (cases_eq (q / 64) i) [
        | inl here ↦ subst (λ k. ref_own (get_or (set bs i s) k (Uniform 0)) (q % 64) ≡ ref_own (get_or bs k (Uniform 0)) (q % 64)) (sym here) (ap (λ r. ref_own r (q % 64)) now ∙ one.own (q % 64) (omega arith) ∙ ap (λ r. ref_own r (q % 64)) was)
        | inr there ↦ ap (λ r. ref_own r (q % 64)) (out q there)
      ];
      bytes = ap (λ r. bytes_in (ref_page r (p % 64))) now ∙ one.bytes ∙ ap (λ r. edit (bytes_in (ref_page r (p % 64)))) was;
    }
