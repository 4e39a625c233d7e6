-- What can be exchanged still can, once a part beside it or around it is set.
use Rattle.std.specs.Prelude.{◌≡◌, ℕ, ◌-◌, ◌*◌, ◌/◌, ◌%◌, ◌<◌, List, length, min}
use Rattle.std.proofs.Common.{sym, subst, inl, inr, refl, get_or, set}
use Rattle.std.proofs.lemmas.Bool.{cases_eq}
use Rattle.std.proofs.lemmas.List.{get_or_default, get_or-set_same}
use Rattle.page_tree.specs.declared.block_ref.BlockRef.{BlockRef}
use Rattle.page_tree.specs.declared.block_ref.BlockRef as block_ref
use Rattle.page_tree.specs.declared.branch.Branch.{Branch}
use Rattle.page_tree.specs.declared.branch_ref.BranchRef.{BranchRef}
use Rattle.page_tree.specs.declared.branch_ref.BranchRef as branch_ref
use Rattle.page_tree.specs.declared.tree.Tree.{Tree}
use Rattle.page_tree.specs.declared.tree_ref.TreeRef.{TreeRef}
use Rattle.page_tree.specs.declared.tree_ref.TreeRef as tree_ref
use Rattle.page_tree.specs.BlockRefs.{IsOwnBlock}
use Rattle.page_tree.specs.Branches.{block_at}
use Rattle.page_tree.specs.BranchRefs.{IsOwnBranch}
use Rattle.page_tree.specs.Trees.{branch_at}
use Rattle.page_tree.specs.TreeRefs.{IsOwnTree}
use Rattle.page_tree.specs.Ready.{ReadyBlock, ReadyBranch, ReadyLimb, ReadyTree, SameOtherBlocks, SameOtherBranches}
use Rattle.page_tree.specs.Replaceable.{ReplaceableBelow, ReplaceableLimb, ReplaceableTree, ReplaceableRoot}
use Rattle.page_tree.proofs.Cuts.{own_block_ready}
use Rattle.page_tree.proofs.Spread.{IsDone, each, each_set}

-- a branch of which a page can be exchanged is its holder's own
pub own_limb : (page : ℕ) (r : BranchRef) → ReplaceableLimb page r → IsOwnBranch r
own_limb page (branch_ref.TheVariants.Uniform p) can = absurd can
own_limb page (branch_ref.TheVariants.Shared b) can = absurd can
own_limb page (branch_ref.TheVariants.Own b) can = refl

-- and so is a tree
pub own_root : (page : ℕ) (r : TreeRef) → ReplaceableRoot page r → IsOwnTree r
own_root page (tree_ref.TheVariants.Uniform p) can = absurd can
own_root page (tree_ref.TheVariants.Shared b) can = absurd can
own_root page (tree_ref.TheVariants.Own b) can = refl

-- a branch that is as it was, where it was its holder's own
pub limb_again : (page : ℕ) (r s : BranchRef) → (IsOwnBranch r → s ≡ r) → ReplaceableLimb page r → ReplaceableLimb page s
limb_again page r s again can = subst (ReplaceableLimb page) (sym (again (own_limb page r can))) can

pub root_again : (page : ℕ) (r s : TreeRef) → (IsOwnTree r → s ≡ r) → ReplaceableRoot page r → ReplaceableRoot page s
root_again page r s again can = subst (ReplaceableRoot page) (sym (again (own_root page r can))) can

-- one block is set
pub block_set : (bs : List BlockRef) (i : ℕ) (d s : BlockRef) → i < length bs → (IsOwnBlock (get_or bs i d) → IsOwnBlock s)
    → (k : ℕ) → IsOwnBlock (get_or bs k (block_ref.TheVariants.Uniform 0)) → IsOwnBlock (get_or (set bs i s) k (block_ref.TheVariants.Uniform 0))
block_set bs i d s within one = each_set (λ k r. IsOwnBlock (get_or bs k (block_ref.TheVariants.Uniform 0)) → IsOwnBlock r) bs i s (block_ref.TheVariants.Uniform 0) within
    (λ k ne own. own) (λ own. one (subst IsOwnBlock (sym (get_or_default bs i d (block_ref.TheVariants.Uniform 0) within)) own))

-- one branch is set
pub limb_set : (bs : List BranchRef) (i : ℕ) (d s : BranchRef) → i < length bs → ((j : ℕ) → ReplaceableLimb j (get_or bs i d) → ReplaceableLimb j s)
    → (j k : ℕ) → ReplaceableLimb j (get_or bs k (branch_ref.TheVariants.Uniform 0)) → ReplaceableLimb j (get_or (set bs i s) k (branch_ref.TheVariants.Uniform 0))
limb_set bs i d s within one j = each_set (λ k r. ReplaceableLimb j (get_or bs k (branch_ref.TheVariants.Uniform 0)) → ReplaceableLimb j r) bs i s (branch_ref.TheVariants.Uniform 0) within
    (λ k ne can. can) (λ can. one j (subst (ReplaceableLimb j) (sym (get_or_default bs i d (branch_ref.TheVariants.Uniform 0) within)) can))

-- the blocks beside one are the same
pub below_stays : (i : ℕ) (b c : Branch) → SameOtherBlocks i b c → IsOwnBlock (block_at c i) → (other : ℕ) → ReplaceableBelow other b → ReplaceableBelow other c
below_stays i b c others here other can = elim (cases_eq (other / 64) i) [
  | inl one ↦ subst (λ k. IsOwnBlock (block_at c k)) (sym one) here
  | inr two ↦ subst IsOwnBlock (sym (others (other / 64) two)) can
]

-- the branches beside one are the same
pub tree_stays : (i : ℕ) (t u : Tree) → SameOtherBranches i t u → ((j : ℕ) → ReplaceableLimb j (branch_at t i) → ReplaceableLimb j (branch_at u i)) → (other : ℕ) → ReplaceableTree other t → ReplaceableTree other u
tree_stays i t u others one other can = elim (cases_eq (other / 8192) i) [
  | inl here ↦ subst (λ k. ReplaceableLimb (other % 8192) (branch_at u k)) (sym here) (one (other % 8192) (subst (λ k. ReplaceableLimb (other % 8192) (branch_at t k)) here can))
  | inr beside ↦ subst (ReplaceableLimb (other % 8192)) (sym (others (other / 8192) beside)) can
]

-- ---- ranges that are ready

-- what holds of a branch that is set holds of it in its row
pub one_set : (P : BranchRef → Type 0) (bs : List BranchRef) (i : ℕ) (d s : BranchRef) → i < length bs → (P (get_or bs i d) → P s) → P (get_or bs i (branch_ref.TheVariants.Uniform 0)) → P (get_or (set bs i s) i (branch_ref.TheVariants.Uniform 0))
one_set P bs i d s within one was = subst P (sym (get_or-set_same bs i s (branch_ref.TheVariants.Uniform 0) within)) (one (subst P (sym (get_or_default bs i d (branch_ref.TheVariants.Uniform 0) within)) was))

-- the blocks beside one are the same, and that one is its holder's own
pub below_range : (i : ℕ) (b c : Branch) → SameOtherBlocks i b c → IsOwnBlock (block_at c i) → (from to : ℕ) → ReadyBranch from to b → ReadyBranch from to c
below_range i b c others own from to ready k low before after = elim (cases_eq k i) [
  | inl one ↦ own_block_ready (block_at c k) (from - 64 * k) (min (to - 64 * k) 64) (subst (λ n. IsOwnBlock (block_at c n)) (sym one) own)
  | inr two ↦ subst (ReadyBlock (from - 64 * k) (min (to - 64 * k) 64)) (sym (others k two)) (ready k low before after)
]

-- the branches beside one are the same
pub tree_range : (i : ℕ) (t u : Tree) → SameOtherBranches i t u → ((from to : ℕ) → ReadyLimb from to (branch_at t i) → ReadyLimb from to (branch_at u i)) → (from to : ℕ) → ReadyTree from to t → ReadyTree from to u
tree_range i t u others one from to ready k low before after = elim (cases_eq k i) [
  | inl here ↦
      subst (λ n. ReadyLimb (from - 8192 * k) (min (to - 8192 * k) 8192) (branch_at u n)) (sym here)
      (one (from - 8192 * k) (min (to - 8192 * k) 8192) (subst (λ n. ReadyLimb (from - 8192 * k) (min (to - 8192 * k) 8192) (branch_at t n)) here (ready k low before after)))
  | inr beside ↦ subst (ReadyLimb (from - 8192 * k) (min (to - 8192 * k) 8192)) (sym (others k beside)) (ready k low before after)
]

-- ---- while a range is made ready

-- a block of its holder's own stays one
abbrev pub IsOwnStill : ℕ → BlockRef → BlockRef → Type 0
IsOwnStill k r s = IsOwnBlock r → IsOwnBlock s

pub below_prepared : (first i : ℕ) (b c : Branch) → IsDone IsOwnStill first i (block_at b) (block_at c) → (page : ℕ) → ReplaceableBelow page b → ReplaceableBelow page c
below_prepared first i b c done page = each IsOwnStill IsOwnStill first i (block_at b) (block_at c) done (λ k x y f. f) (λ k x own. own) (page / 64)

-- a page that can be exchanged still can
abbrev pub CanStill : ℕ → BranchRef → BranchRef → Type 0
CanStill k r s = (page : ℕ) → ReplaceableLimb page r → ReplaceableLimb page s

pub tree_prepared : (first i : ℕ) (t u : Tree) → IsDone CanStill first i (branch_at t) (branch_at u) → (page : ℕ) → ReplaceableTree page t → ReplaceableTree page u
tree_prepared first i t u done page = each CanStill CanStill first i (branch_at t) (branch_at u) done (λ k x y f. f) (λ k x page can. can) (page / 8192) (page % 8192)
