-- What an edit of a page's bytes in one branch does to a tree.
use Rattle.std.specs.Prelude.{◌≡◌, ℕ, ◌/◌, ◌%◌, ◌<◌, List, length}
use Rattle.std.proofs.Common.{◌∙◌, ap, sym, arith, subst, inl, inr, get_or, set}
use Rattle.std.proofs.lemmas.Bool.{cases_eq}
use Rattle.std.proofs.lemmas.List.{get_or-set_same, get_or-set_other, get_or_default}
use Rattle.page_tree.specs.declared.branch_ref.BranchRef.{BranchRef}
use Rattle.page_tree.specs.declared.branch_ref.BranchRef.TheVariants.{Uniform}
use Rattle.page_tree.specs.Blocks.{bytes_in}
use Rattle.page_tree.specs.Rows.{IsEditedRow}
use Rattle.page_tree.specs.BranchRefs.{limb_permission, limb_page, limb_own, limb_row, AreWholeLimb}
use Rattle.page_tree.specs.Trees.{tree_row}

-- the bytes of one page are edited in its branch
pub edited_set : (bs : List BranchRef) (p : ℕ) (d s : BranchRef) (edit : List ℕ → List ℕ) → p / 8192 < length bs → IsEditedRow 8192 (p % 8192) edit (limb_row (get_or bs (p / 8192) d)) (limb_row s)
    → IsEditedRow 1048576 p edit (tree_row (record { branches = bs })) (tree_row (record { branches = set bs (p / 8192) s }))
edited_set bs p d s edit within one =
    let i : ℕ = p / 8192 in
    let was : get_or bs i d ≡ get_or bs i (Uniform 0) = get_or_default bs i d (Uniform 0) within in
    let now : get_or (set bs i s) i (Uniform 0) ≡ s = get_or-set_same bs i s (Uniform 0) within in
    let out : (q : ℕ) → (q / 8192 ≡ i → ⊥) → get_or (set bs i s) (q / 8192) (Uniform 0) ≡ get_or bs (q / 8192) (Uniform 0) = λ q ne. get_or-set_other bs i (q / 8192) s (Uniform 0) ne in
    record {
      permission = λ q below. elim (cases_eq (q / 8192) i) [
        | inl here ↦ subst (λ k. limb_permission (get_or (set bs i s) k (Uniform 0)) (q % 8192) ≡ limb_permission (get_or bs k (Uniform 0)) (q % 8192)) (sym here) (ap (λ r. limb_permission r (q % 8192)) now ∙ one.permission (q % 8192) (omega arith) ∙ ap (λ r. limb_permission r (q % 8192)) was)
        | inr there ↦ ap (λ r. limb_permission r (q % 8192)) (out q there)
      ];
      other = λ q below ne. elim (cases_eq (q / 8192) i) [
        | inl here ↦ subst (λ k. limb_page (get_or (set bs i s) k (Uniform 0)) (q % 8192) ≡ limb_page (get_or bs k (Uniform 0)) (q % 8192)) (sym here) (ap (λ r. limb_page r (q % 8192)) now ∙ one.other (q % 8192) (omega arith) (λ e. ne (omega arith)) ∙ ap (λ r. limb_page r (q % 8192)) was)
        | inr there ↦ ap (λ r. limb_page r (q % 8192)) (out q there)
      ];
      own = λ q below. elim (cases_eq (q / 8192) i) [
        | inl here ↦ subst (λ k. limb_own (get_or (set bs i s) k (Uniform 0)) (q % 8192) ≡ limb_own (get_or bs k (Uniform 0)) (q % 8192)) (sym here) (ap (λ r. limb_own r (q % 8192)) now ∙ one.own (q % 8192) (omega arith) ∙ ap (λ r. limb_own r (q % 8192)) was)
        | inr there ↦ ap (λ r. limb_own r (q % 8192)) (out q there)
      ];
      bytes = ap (λ r. bytes_in (limb_page r (p % 8192))) now ∙ one.bytes ∙ ap (λ r. edit (bytes_in (limb_page r (p % 8192)))) was;
    }

-- each branch stays whole where one is set
pub whole_set : (bs : List BranchRef) (i : ℕ) (d s : BranchRef) → i < length bs → (AreWholeLimb (get_or bs i d) → AreWholeLimb s)
    → ((k : ℕ) → k < 128 → AreWholeLimb (get_or bs k (Uniform 0))) → (k : ℕ) → k < 128 → AreWholeLimb (get_or (set bs i s) k (Uniform 0))
whole_set bs i d s within stays whole k below = elim (cases_eq k i) [
  | inl here ↦
      let now : get_or (set bs i s) i (Uniform 0) ≡ s = get_or-set_same bs i s (Uniform 0) within in
      let was : get_or bs i d ≡ get_or bs i (Uniform 0) = get_or_default bs i d (Uniform 0) within in
      let i_below : i < 128 = omega arith in
      subst (λ n. AreWholeLimb (get_or (set bs i s) n (Uniform 0))) (sym here) (subst AreWholeLimb (sym now) (stays (subst AreWholeLimb (sym was) (whole i i_below))))
  | inr there ↦ subst AreWholeLimb (sym (get_or-set_other bs i k s (Uniform 0) there)) (whole k below)
]
