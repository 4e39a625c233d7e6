-- Blocks and branches that are read from a tree, and kept in it.
use Rattle.std.specs.Prelude.{◌≡◌, ℕ, ◌+◌, ◌*◌, ◌/◌, ◌%◌, ◌<◌, Bool, false, nat_eq, cond, length, Result, Ok, Err, IfOk}
use Rattle.std.proofs.Common.{◌∙◌, ap, sym, arith, subst, inl, inr, get_or}
use Rattle.std.proofs.lemmas.Bool.{cases_eq}
use Rattle.std.proofs.lemmas.List.{get_or_default}
use Rattle.page_tree.specs.declared.block_ref.BlockRef.{BlockRef}
use Rattle.page_tree.specs.declared.branch_ref.BranchRef.{BranchRef}
use Rattle.page_tree.specs.declared.branch_ref.BranchRef.TheVariants.{Uniform}
use Rattle.page_tree.specs.declared.tree.Tree.{Tree}
use Rattle.page_tree.specs.Blocks.{byte_in}
use Rattle.page_tree.specs.BlockRefs.{ref_permission, ref_page}
use Rattle.page_tree.specs.BranchRefs.{limb_permission, limb_page, limb_row, SameLimb}
use Rattle.page_tree.specs.Trees.{branch_at, tree_row}
use Rattle.page_tree.specs.Ready.{SameOtherBranches}
use Rattle.page_tree.specs.Blockwise.{IsBlockOf, IsBlockPutRow}
use Rattle.page_tree.specs.Branchwise.{IsBranchOf}
use Rattle.page_tree.proofs.Spread.{eq_same, not_eq}

pub ok_too : {T E : Type 0} (r : Result T E) (P Q : T → Type 0) → ((x : T) → P x → Q x) → IfOk r P → IfOk r Q
ok_too (Ok x) P Q f p = f x p
ok_too (Err e) P Q f p = tt

-- a block of a branch is one of the tree
pub block_of : (t : Tree) (i : ℕ) (block : BlockRef) → IsBlockOf (limb_row (branch_at t (i / 128))) (i % 128) block → IsBlockOf (tree_row t) i block
block_of t i block one = record {
  permission = λ j below.
      let e : i / 128 ≡ (64 * i + j) / 8192 = omega arith in
      let f : 64 * (i % 128) + j ≡ (64 * i + j) % 8192 = omega arith in
      one.permission j below ∙ ap (λ n. limb_permission (branch_at t n) (64 * (i % 128) + j)) e ∙ ap (limb_permission (branch_at t ((64 * i + j) / 8192))) f;
  byte = λ j k below.
      let e : i / 128 ≡ (64 * i + j) / 8192 = omega arith in
      let f : 64 * (i % 128) + j ≡ (64 * i + j) % 8192 = omega arith in
      one.byte j k below ∙ ap (λ n. byte_in (limb_page (branch_at t n) (64 * (i % 128) + j)) k) e ∙ ap (λ n. byte_in (limb_page (branch_at t ((64 * i + j) / 8192)) n) k) f;
}

-- the same, of a branch that was looked up
pub block_at_index : (t : Tree) (i : ℕ) (d : BranchRef) (block : BlockRef) → i / 128 < length t.branches → IsBlockOf (limb_row (get_or t.branches (i / 128) d)) (i % 128) block → IsBlockOf (tree_row t) i block
block_at_index t i d block within one = block_of t i block (subst (λ r. IsBlockOf (limb_row r) (i % 128) block) (get_or_default t.branches (i / 128) d (Uniform 0) within) one)

put_branches : {C A : Type 0} (i : ℕ) (a b : ℕ → C) (get : C → ℕ → A) (x : ℕ → A)
    → ((k : ℕ) → (k ≡ i / 128 → ⊥) → b k ≡ a k)
    → ((q : ℕ) → q < 8192 → get (b (i / 128)) q ≡ cond (nat_eq (q / 64) (i % 128)) (x (q % 64)) (get (a (i / 128)) q))
    → (p : ℕ) → get (b (p / 8192)) (p % 8192) ≡ cond (nat_eq (p / 64) i) (x (p % 64)) (get (a (p / 8192)) (p % 8192))
put_branches {C} {A} i a b get x others here p =
    let k : ℕ = p / 8192 in let q : ℕ = p % 8192 in
    let turn : (t u : Bool) → t ≡ u → cond t (x (p % 64)) (get (a k) q) ≡ cond u (x (p % 64)) (get (a k) q) = λ t u e. ap (λ v. cond v (x (p % 64)) (get (a k) q)) e in
    elim (cases_eq k (i / 128)) [
      | inl one ↦
          let same : q % 64 ≡ p % 64 = omega arith in
          subst (λ n. get (b n) q ≡ cond (nat_eq (q / 64) (i % 128)) (x (q % 64)) (get (a n) q)) (sym one) (here q (omega arith))
          ∙ ap (λ n. cond (nat_eq (q / 64) (i % 128)) (x n) (get (a k) q)) same
          ∙ turn (nat_eq (q / 64) (i % 128)) (nat_eq (p / 64) i) (eq_same _ _ _ _ (λ h. omega arith) (λ h. omega arith))
      | inr two ↦
          let no : nat_eq (p / 64) i ≡ false = not_eq (p / 64) i (λ e. two (omega arith)) in
          ap (λ (c : C). get c q) (others k two) ∙ turn false (nat_eq (p / 64) i) (sym no)
    ]

-- a block that is kept in a branch is kept in the tree
pub put_in_tree : (t u : Tree) (i : ℕ) (block : BlockRef) → SameOtherBranches (i / 128) t u → IsBlockPutRow 8192 (i % 128) block (limb_row (branch_at t (i / 128))) (limb_row (branch_at u (i / 128))) → IsBlockPutRow 1048576 i block (tree_row t) (tree_row u)
put_in_tree t u i block others put = record {
  permission = λ p below. put_branches i (branch_at t) (branch_at u) limb_permission (ref_permission block) others (λ q low. put.permission q low) p;
  page = λ p below. put_branches i (branch_at t) (branch_at u) limb_page (ref_page block) others (λ q low. put.page q low) p;
}

-- a branch of a tree has pages of the tree
pub branch_of : (t : Tree) (i : ℕ) (branch : BranchRef) → SameLimb (branch_at t i) branch → IsBranchOf (tree_row t) i branch
branch_of t i branch one = record {
  permission = λ j below.
      let e : i ≡ (8192 * i + j) / 8192 = omega arith in
      let f : j ≡ (8192 * i + j) % 8192 = omega arith in
      one.permission j below ∙ ap (λ n. limb_permission (branch_at t n) j) e ∙ ap (limb_permission (branch_at t ((8192 * i + j) / 8192))) f;
  byte = λ j k below.
      let e : i ≡ (8192 * i + j) / 8192 = omega arith in
      let f : j ≡ (8192 * i + j) % 8192 = omega arith in
      one.byte j k below ∙ ap (λ n. byte_in (limb_page (branch_at t n) j) k) e ∙ ap (λ n. byte_in (limb_page (branch_at t ((8192 * i + j) / 8192)) n) k) f;
}
