-- Which pages of a row of blocks are owned after one block is set.
use Rattle.std.specs.Prelude.{◌≡◌, ℕ, ◌/◌, ◌%◌, ◌<◌, List, length, OnErr}
use Rattle.std.proofs.Common.{Result, Ok, Err, ◌∙◌, ap, sym, arith, subst, inl, inr, get_or, set}
use Rattle.std.proofs.lemmas.Bool.{cases_eq}
use Rattle.std.proofs.lemmas.List.{get_or-set_same, get_or-set_other, get_or_default}
use Rattle.page_tree.specs.declared.block_ref.BlockRef.{BlockRef}
use Rattle.page_tree.specs.declared.block_ref.BlockRef.TheVariants.{Uniform}
use Rattle.page_tree.specs.BlockRefs.{ref_own, SameOwn, IsOwnedToo}
use Rattle.page_tree.specs.Branches.{IsOwnedBelow}

pub at_error : {T E : Type 0} (r : Result T E) (P : Type 0) → P → OnErr r P
at_error (Ok x) P p = tt
at_error (Err e) P p = p

pub own_set : (bs : List BlockRef) (i : ℕ) (d s : BlockRef) → i < length bs → SameOwn (get_or bs i d) s → (q : ℕ) → ref_own (get_or (set bs i s) (q / 64) (Uniform 0)) (q % 64) ≡ ref_own (get_or bs (q / 64) (Uniform 0)) (q % 64)
own_set bs i d s within same q = elim (cases_eq (q / 64) i) [
  | inl here ↦
      let e : ref_own (get_or (set bs i s) i (Uniform 0)) (q % 64) ≡ ref_own (get_or bs i (Uniform 0)) (q % 64) =
      ap (λ r. ref_own r (q % 64)) (get_or-set_same bs i s (Uniform 0) within) ∙ same (q % 64) (omega arith) ∙ ap (λ r. ref_own r (q % 64)) (get_or_default bs i d (Uniform 0) within) in
      subst (λ k. ref_own (get_or (set bs i s) k (Uniform 0)) (q % 64) ≡ ref_own (get_or bs k (Uniform 0)) (q % 64)) (sym here) e
  | inr there ↦ ap (λ r. ref_own r (q % 64)) (get_or-set_other bs i (q / 64) s (Uniform 0) there)
]

-- one page is owned too
pub owned_set : (bs : List BlockRef) (p : ℕ) (d s : BlockRef) → p / 64 < length bs → IsOwnedToo (p % 64) (get_or bs (p / 64) d) s
    → IsOwnedBelow p (record { blocks = bs }) (record { blocks = set bs (p / 64) s })
owned_set bs p d s within one =
    let i : ℕ = p / 64 in
    let was : get_or bs i d ≡ get_or bs i (Uniform 0) = get_or_default bs i d (Uniform 0) within in
    let now : get_or (set bs i s) i (Uniform 0) ≡ s = get_or-set_same bs i s (Uniform 0) within in
    record {
      here = ap (λ r. ref_own r (p % 64)) now ∙ one.here;
      other = λ q below ne. elim (cases_eq (q / 64) i) [
        | inl here ↦ subst (λ k. ref_own (get_or (set bs i s) k (Uniform 0)) (q % 64) ≡ ref_own (get_or bs k (Uniform 0)) (q % 64)) (sym here) (ap (λ r. ref_own r (q % 64)) now ∙ one.other (q % 64) (omega arith) (λ e. ne (omega arith)) ∙ ap (λ r. ref_own r (q % 64)) was)
        | inr there ↦ ap (λ r. ref_own r (q % 64)) (get_or-set_other bs i (q / 64) s (Uniform 0) there)
      ];
    }
