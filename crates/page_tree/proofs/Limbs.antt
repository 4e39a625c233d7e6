-- Which pages of a row of branches are owned after one block is set.
use Rattle.std.specs.Prelude.{◌≡◌, ℕ, ◌/◌, ◌%◌, ◌<◌, List, length, OnErr, true}
use Rattle.std.proofs.Common.{Result, Ok, Err, ◌∙◌, ap, sym, arith, subst, inl, inr, get_or, set}
use Rattle.std.proofs.lemmas.Bool.{cases_eq}
use Rattle.std.proofs.lemmas.List.{get_or-set_same, get_or-set_other, get_or_default}
use Rattle.page_tree.specs.declared.tree.Tree.{Tree}
use Rattle.page_tree.specs.declared.branch_ref.BranchRef.{BranchRef}
use Rattle.page_tree.specs.declared.branch_ref.BranchRef.TheVariants.{Uniform}
use Rattle.page_tree.specs.BranchRefs.{limb_own, SameLimb, SameOwnLimb, IsOwnedLimb}
use Rattle.page_tree.specs.Trees.{branch_at, IsOwnedTree}
use Rattle.page_tree.proofs.Spread.{each_set}

pub at_error : {T E : Type 0} (r : Result T E) (P : Type 0) → P → OnErr r P
at_error (Ok x) P p = tt
at_error (Err e) P p = p

pub own_set : (bs : List BranchRef) (i : ℕ) (d s : BranchRef) → i < length bs → SameOwnLimb (get_or bs i d) s → (q : ℕ) → limb_own (get_or (set bs i s) (q / 8192) (Uniform 0)) (q % 8192) ≡ limb_own (get_or bs (q / 8192) (Uniform 0)) (q % 8192)
own_set bs i d s within same q = elim (cases_eq (q / 8192) i) [
  | inl here ↦
      let e : limb_own (get_or (set bs i s) i (Uniform 0)) (q % 8192) ≡ limb_own (get_or bs i (Uniform 0)) (q % 8192) =
      ap (λ r. limb_own r (q % 8192)) (get_or-set_same bs i s (Uniform 0) within) ∙ same (q % 8192) (omega arith) ∙ ap (λ r. limb_own r (q % 8192)) (get_or_default bs i d (Uniform 0) within) in
      subst (λ k. limb_own (get_or (set bs i s) k (Uniform 0)) (q % 8192) ≡ limb_own (get_or bs k (Uniform 0)) (q % 8192)) (sym here) e
  | inr there ↦ ap (λ r. limb_own r (q % 8192)) (get_or-set_other bs i (q / 8192) s (Uniform 0) there)
]

pub same_more : (a b c : BranchRef) → SameLimb a b → SameLimb b c → SameLimb a c
same_more a b c f g = record {
  permission = λ j low. g.permission j low ∙ f.permission j low;
  byte = λ j k low. g.byte j k low ∙ f.byte j k low;
}

-- no page becomes an own one where one branch is set
pub less_set : (t : Tree) (bs : List BranchRef) (i : ℕ) (d s : BranchRef) → i < length bs
    → ((k j : ℕ) → j < 8192 → limb_own (get_or bs k (Uniform 0)) j ≡ true → limb_own (branch_at t k) j ≡ true)
    → ((j : ℕ) → j < 8192 → limb_own s j ≡ true → limb_own (get_or bs i d) j ≡ true)
    → (k j : ℕ) → j < 8192 → limb_own (get_or (set bs i s) k (Uniform 0)) j ≡ true → limb_own (branch_at t k) j ≡ true
less_set t bs i d s within before one =
    let was : get_or bs i d ≡ get_or bs i (Uniform 0) = get_or_default bs i d (Uniform 0) within in
    each_set (λ k r. (j : ℕ) → j < 8192 → limb_own r j ≡ true → limb_own (branch_at t k) j ≡ true) bs i s (Uniform 0) within (λ k ne. before k)
    (λ j low own. before i j low (subst (λ r. limb_own r j ≡ true) was (one j low own)))

-- one page is owned too
pub owned_set : (bs : List BranchRef) (p : ℕ) (d s : BranchRef) → p / 8192 < length bs → IsOwnedLimb (p % 8192) (get_or bs (p / 8192) d) s
    → IsOwnedTree p (record { branches = bs }) (record { branches = set bs (p / 8192) s })
owned_set bs p d s within one =
    let i : ℕ = p / 8192 in
    let was : get_or bs i d ≡ get_or bs i (Uniform 0) = get_or_default bs i d (Uniform 0) within in
    let now : get_or (set bs i s) i (Uniform 0) ≡ s = get_or-set_same bs i s (Uniform 0) within in
    record {
      here = ap (λ r. limb_own r (p % 8192)) now ∙ one.here;
      other = λ q below ne. elim (cases_eq (q / 8192) i) [
        | inl here ↦ subst (λ k. limb_own (get_or (set bs i s) k (Uniform 0)) (q % 8192) ≡ limb_own (get_or bs k (Uniform 0)) (q % 8192)) (sym here) (ap (λ r. limb_own r (q % 8192)) now ∙ one.other (q % 8192) (omega arith) (λ e. ne (omega arith)) ∙ ap (λ r. limb_own r (q % 8192)) was)
        | inr there ↦ ap (λ r. limb_own r (q % 8192)) (get_or-set_other bs i (q / 8192) s (Uniform 0) there)
      ];
    }
