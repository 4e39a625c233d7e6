-- The pages of a tree after a range of its branches is done.
use Rattle.std.specs.Prelude.{◌≡◌, ℕ, ◌+◌, ◌-◌, ◌*◌, ◌/◌, ◌%◌, ◌<◌, ◌≤◌, min, true, false, Option, None}
use Rattle.std.proofs.Common.{ap, sym, arith, subst, refl, inl, inr}
use Rattle.std.proofs.lemmas.Bool.{cases_eq}
use Rattle.page_store.specs.declared.PageRef.{PageRef}
use Rattle.page_tree.specs.declared.branch_ref.BranchRef.{BranchRef}
use Rattle.page_tree.specs.declared.tree.Tree.{Tree}
use Rattle.page_tree.specs.Blocks.{is_own_in}
use Rattle.page_tree.specs.Rows.{SameRow, SameOwners, IsPermittedRow, IsClearedRow, IsTakenRow, IsReplacedRow}
use Rattle.page_tree.specs.BranchRefs.{limb_row, limb_permission, limb_page, limb_own, AreWholeLimb}
use Rattle.page_tree.specs.Trees.{branch_at, tree_own, tree_row, AreWholeTree}
use Rattle.page_tree.specs.Cuts.{CutLimb, CutTree}
use Rattle.page_tree.specs.Ready.{ReadyLimb, ReadyTree, SameOtherBranches}
use Rattle.page_tree.proofs.Spread.{IsDone, each, spread_branches, replace_branches}

-- all that a preparation keeps of a branch
pub record IsKept (k : ℕ) (r s : BranchRef) : Type 0 where
  pub same : SameRow 8192 (limb_row r) (limb_row s)
  pub own : SameOwners 8192 (limb_row r) (limb_row s)
  pub whole : AreWholeLimb r → AreWholeLimb s

kept_same : (r : BranchRef) → IsKept 0 r r
kept_same r = record {
  same = record { permission = λ p low. refl; byte = λ p k low. refl };
  own = λ p low. refl;
  whole = λ w. w;
}

all_kept : (first i : ℕ) (a b : Tree) → IsDone IsKept first i (branch_at a) (branch_at b) → (k : ℕ) → IsKept 0 (branch_at a k) (branch_at b k)
all_kept first i a b d = each IsKept (λ k. IsKept 0) first i (branch_at a) (branch_at b) d (λ k x y h. record { same = h.same; own = h.own; whole = h.whole }) (λ k. kept_same)

pub kept_row : (first i : ℕ) (a b : Tree) → IsDone IsKept first i (branch_at a) (branch_at b) → SameRow 1048576 (tree_row a) (tree_row b)
kept_row first i a b d = record {
  permission = λ p low. (all_kept first i a b d (p / 8192)).same.permission (p % 8192) (omega arith);
  byte = λ p k low. (all_kept first i a b d (p / 8192)).same.byte (p % 8192) k (omega arith);
}

pub kept_owners : (first i : ℕ) (a b : Tree) → IsDone IsKept first i (branch_at a) (branch_at b) → SameOwners 1048576 (tree_row a) (tree_row b)
kept_owners first i a b d p low = (all_kept first i a b d (p / 8192)).own (p % 8192) (omega arith)

pub kept_whole : (first i : ℕ) (a b : Tree) → IsDone IsKept first i (branch_at a) (branch_at b) → AreWholeTree a → AreWholeTree b
kept_whole first i a b d whole k low = (all_kept first i a b d k).whole (whole k low)

-- a branch is ready for what a range has of it
abbrev pub IsReady : ℕ → ℕ → ℕ → BranchRef → BranchRef → Type 0
IsReady from to k r s = ReadyLimb (from - 8192 * k) (min (to - 8192 * k) 8192) s

pub ready_row : (from to i : ℕ) (a b : Tree) → i ≡ (to - 1) / 8192 + 1 → IsDone (IsReady from to) (from / 8192) i (branch_at a) (branch_at b) → ReadyTree from to b
ready_row from to i a b last d k low before after = d.done k (omega arith) (omega arith)

-- a branch is cut for what a range has of it
abbrev pub IsCut : ℕ → ℕ → ℕ → BranchRef → BranchRef → Type 0
IsCut from to k r s = CutLimb (from - 8192 * k) (min (to - 8192 * k) 8192) s

pub cut_row : (from to i : ℕ) (a b : Tree) → i ≡ (to - 1) / 8192 + 1 → IsDone (IsCut from to) (from / 8192) i (branch_at a) (branch_at b) → CutTree from to b
cut_row from to i a b last d k low before after = d.done k (omega arith) (omega arith)

-- what a range has of a branch is permitted
pub record IsPermittedPart (from to right k : ℕ) (r s : BranchRef) : Type 0 where
  pub permitted : IsPermittedRow 8192 (from - 8192 * k) (min (to - 8192 * k) 8192) right (limb_row r) (limb_row s)
  pub whole : AreWholeLimb r → AreWholeLimb s
  pub ready : ReadyLimb (from - 8192 * k) (min (to - 8192 * k) 8192) s

pub permitted_row : (from to right i : ℕ) (a b : Tree) → from < to → i ≡ (to - 1) / 8192 + 1 → IsDone (IsPermittedPart from to right) (from / 8192) i (branch_at a) (branch_at b) → IsPermittedRow 1048576 from to right (tree_row a) (tree_row b)
permitted_row from to right i a b rise last d = record {
  permission = λ p low. spread_branches (IsPermittedPart from to right) from to i (branch_at a) (branch_at b) limb_permission (λ k j. right) rise last d (λ k r s h j at. h.permitted.permission j at) p;
  page = λ p low. each (IsPermittedPart from to right) (λ n r s. (j : ℕ) → j < 8192 → limb_page s j ≡ limb_page r j) (from / 8192) i (branch_at a) (branch_at b) d (λ k x y h. h.permitted.page) (λ n x j at. refl) (p / 8192) (p % 8192) (omega arith);
  own = λ p low. each (IsPermittedPart from to right) (λ n r s. (j : ℕ) → j < 8192 → limb_own s j ≡ limb_own r j) (from / 8192) i (branch_at a) (branch_at b) d (λ k x y h. h.permitted.own) (λ n x j at. refl) (p / 8192) (p % 8192) (omega arith);
}

pub permitted_whole : (from to right i : ℕ) (a b : Tree) → IsDone (IsPermittedPart from to right) (from / 8192) i (branch_at a) (branch_at b) → AreWholeTree a → AreWholeTree b
permitted_whole from to right i a b d whole k low = each (IsPermittedPart from to right) (λ n r s. AreWholeLimb r → AreWholeLimb s) (from / 8192) i (branch_at a) (branch_at b) d (λ k x y h. h.whole) (λ n x w. w) k (whole k low)

pub permitted_ready : (from to right i : ℕ) (a b : Tree) → i ≡ (to - 1) / 8192 + 1 → IsDone (IsPermittedPart from to right) (from / 8192) i (branch_at a) (branch_at b) → ReadyTree from to b
permitted_ready from to right i a b last d k low before after = (d.done k (omega arith) (omega arith)).ready

-- what a range has of a branch is cleared
pub record IsClearedPart (from to k : ℕ) (r s : BranchRef) : Type 0 where
  pub cleared : IsClearedRow 8192 (from - 8192 * k) (min (to - 8192 * k) 8192) (limb_row r) (limb_row s)
  pub whole : AreWholeLimb r → AreWholeLimb s
  pub ready : ReadyLimb (from - 8192 * k) (min (to - 8192 * k) 8192) s

pub cleared_row : (from to i : ℕ) (a b : Tree) → from < to → i ≡ (to - 1) / 8192 + 1 → IsDone (IsClearedPart from to) (from / 8192) i (branch_at a) (branch_at b) → IsClearedRow 1048576 from to (tree_row a) (tree_row b)
cleared_row from to i a b rise last d = record {
  permission = λ p low. each (IsClearedPart from to) (λ n r s. (j : ℕ) → j < 8192 → limb_permission s j ≡ limb_permission r j) (from / 8192) i (branch_at a) (branch_at b) d (λ k x y h. h.cleared.permission) (λ n x j at. refl) (p / 8192) (p % 8192) (omega arith);
  page = λ p low. spread_branches (IsClearedPart from to) from to i (branch_at a) (branch_at b) limb_page (λ k j. None) rise last d (λ k r s h j at. h.cleared.page j at) p;
  own = λ p low. spread_branches (IsClearedPart from to) from to i (branch_at a) (branch_at b) limb_own (λ k j. false) rise last d (λ k r s h j at. h.cleared.own j at) p;
}

pub cleared_whole : (from to i : ℕ) (a b : Tree) → IsDone (IsClearedPart from to) (from / 8192) i (branch_at a) (branch_at b) → AreWholeTree a → AreWholeTree b
cleared_whole from to i a b d whole k low = each (IsClearedPart from to) (λ n r s. AreWholeLimb r → AreWholeLimb s) (from / 8192) i (branch_at a) (branch_at b) d (λ k x y h. h.whole) (λ n x w. w) k (whole k low)

pub cleared_ready : (from to i : ℕ) (a b : Tree) → i ≡ (to - 1) / 8192 + 1 → IsDone (IsClearedPart from to) (from / 8192) i (branch_at a) (branch_at b) → ReadyTree from to b
cleared_ready from to i a b last d k low before after = (d.done k (omega arith) (omega arith)).ready

-- what a range has of a branch is that of another branch
pub record IsTakenPart (from to k : ℕ) (o r s : BranchRef) : Type 0 where
  pub taken : IsTakenRow 8192 (from - 8192 * k) (min (to - 8192 * k) 8192) (limb_row r) (limb_row o) (limb_row s)
  pub whole : AreWholeLimb r → AreWholeLimb o → AreWholeLimb s
  pub ready : ReadyLimb (from - 8192 * k) (min (to - 8192 * k) 8192) r → ReadyLimb (from - 8192 * k) (min (to - 8192 * k) 8192) o → ReadyLimb (from - 8192 * k) (min (to - 8192 * k) 8192) s

abbrev pub IsTakenOf : ℕ → ℕ → Tree → ℕ → BranchRef → BranchRef → Type 0
IsTakenOf from to o k r s = IsTakenPart from to k (branch_at o k) r s

pub taken_row : (from to i : ℕ) (o a b : Tree) → from < to → i ≡ (to - 1) / 8192 + 1 → IsDone (IsTakenOf from to o) (from / 8192) i (branch_at a) (branch_at b) → IsTakenRow 1048576 from to (tree_row a) (tree_row o) (tree_row b)
taken_row from to i o a b rise last d = record {
  permission = λ p low. spread_branches (IsTakenOf from to o) from to i (branch_at a) (branch_at b) limb_permission (λ k j. limb_permission (branch_at o k) j) rise last d (λ k r s h j at. h.taken.permission j at) p;
  page = λ p low. spread_branches (IsTakenOf from to o) from to i (branch_at a) (branch_at b) limb_page (λ k j. limb_page (branch_at o k) j) rise last d (λ k r s h j at. h.taken.page j at) p;
  own = λ p low. spread_branches (IsTakenOf from to o) from to i (branch_at a) (branch_at b) limb_own (λ k j. limb_own (branch_at o k) j) rise last d (λ k r s h j at. h.taken.own j at) p;
}

pub taken_whole : (from to i : ℕ) (o a b : Tree) → IsDone (IsTakenOf from to o) (from / 8192) i (branch_at a) (branch_at b) → AreWholeTree a → AreWholeTree o → AreWholeTree b
taken_whole from to i o a b d whole other k low = each (IsTakenOf from to o) (λ n r s. AreWholeLimb r → AreWholeLimb (branch_at o n) → AreWholeLimb s) (from / 8192) i (branch_at a) (branch_at b) d (λ k x y h. h.whole) (λ n x w v. w) k (whole k low) (other k low)

pub taken_ready : (from to i : ℕ) (o a b : Tree) → i ≡ (to - 1) / 8192 + 1 → IsDone (IsTakenOf from to o) (from / 8192) i (branch_at a) (branch_at b) → ReadyTree from to a → ReadyTree from to o → ReadyTree from to b
taken_ready from to i o a b last d mine theirs k low before after = (d.done k (omega arith) (omega arith)).ready (mine k low before after) (theirs k low before after)

-- no more is said than which branches are the same
abbrev pub IsAny : ℕ → BranchRef → BranchRef → Type 0
IsAny k r s = Unit {0}

-- one page of one branch is replaced
pub replaced_row : (at : ℕ) (kept : Option PageRef) (a b : Tree) → SameOtherBranches (at / 8192) a b → IsReplacedRow 8192 (at % 8192) kept (limb_row (branch_at a (at / 8192))) (limb_row (branch_at b (at / 8192))) → IsReplacedRow 1048576 at kept (tree_row a) (tree_row b)
replaced_row at kept a b others one = record {
  permission = λ p low. elim (cases_eq (p / 8192) (at / 8192)) [
    | inl here ↦ subst (λ n. limb_permission (branch_at b n) (p % 8192) ≡ limb_permission (branch_at a n) (p % 8192)) (sym here) (one.permission (p % 8192) (omega arith))
    | inr there ↦ ap (λ (r : BranchRef). limb_permission r (p % 8192)) (others (p / 8192) there)
  ];
  page = λ p low. replace_branches at (branch_at a) (branch_at b) limb_page kept others one.page p;
  own = λ p low. replace_branches at (branch_at a) (branch_at b) limb_own (is_own_in kept) others one.own p;
}

-- a page of a tree is ready where it is in its branch
pub replaced_whole : (at : ℕ) (a b : Tree) → SameOtherBranches (at / 8192) a b → (AreWholeLimb (branch_at a (at / 8192)) → AreWholeLimb (branch_at b (at / 8192))) → AreWholeTree a → AreWholeTree b
replaced_whole at a b others one whole k low = elim (cases_eq k (at / 8192)) [
  | inl here ↦ subst (λ n. AreWholeLimb (branch_at b n)) (sym here) (one (subst (λ n. AreWholeLimb (branch_at a n)) here (whole k low)))
  | inr there ↦ subst AreWholeLimb (sym (others k there)) (whole k low)
]

-- all that freezing keeps of a branch
pub record IsFrozen (k : ℕ) (r s : BranchRef) : Type 0 where
  pub same : SameRow 8192 (limb_row r) (limb_row s)
  pub less : (j : ℕ) → j < 8192 → limb_own s j ≡ true → limb_own r j ≡ true
  pub whole : AreWholeLimb r → AreWholeLimb s

frozen_same : (r : BranchRef) → IsFrozen 0 r r
frozen_same r = record {
  same = record { permission = λ p low. refl; byte = λ p k low. refl };
  less = λ j low own. own;
  whole = λ w. w;
}

all_frozen : (first i : ℕ) (a b : Tree) → IsDone IsFrozen first i (branch_at a) (branch_at b) → (k : ℕ) → IsFrozen 0 (branch_at a k) (branch_at b k)
all_frozen first i a b d = each IsFrozen (λ k. IsFrozen 0) first i (branch_at a) (branch_at b) d (λ k x y h. record { same = h.same; less = h.less; whole = h.whole }) (λ k. frozen_same)

pub frozen_row : (first i : ℕ) (a b : Tree) → IsDone IsFrozen first i (branch_at a) (branch_at b) → SameRow 1048576 (tree_row a) (tree_row b)
frozen_row first i a b d = record {
  permission = λ p low. (all_frozen first i a b d (p / 8192)).same.permission (p % 8192) (omega arith);
  byte = λ p k low. (all_frozen first i a b d (p / 8192)).same.byte (p % 8192) k (omega arith);
}

pub frozen_less : (first i : ℕ) (a b : Tree) → IsDone IsFrozen first i (branch_at a) (branch_at b) → (p : ℕ) → p < 1048576 → tree_own b p ≡ true → tree_own a p ≡ true
frozen_less first i a b d p low = (all_frozen first i a b d (p / 8192)).less (p % 8192) (omega arith)

pub frozen_whole : (first i : ℕ) (a b : Tree) → IsDone IsFrozen first i (branch_at a) (branch_at b) → AreWholeTree a → AreWholeTree b
frozen_whole first i a b d whole k low = (all_frozen first i a b d k).whole (whole k low)

-- what a range has of a branch is not owned
abbrev pub IsShared : ℕ → ℕ → ℕ → BranchRef → BranchRef → Type 0
IsShared from to k r s = (j : ℕ) → from - 8192 * k ≤ j → j < min (to - 8192 * k) 8192 → limb_own s j ≡ false

pub shared_row : (from to i : ℕ) (a b : Tree) → i ≡ (to - 1) / 8192 + 1 → IsDone (IsShared from to) (from / 8192) i (branch_at a) (branch_at b) → (p : ℕ) → from ≤ p → p < to → tree_own b p ≡ false
shared_row from to i a b last d p low high = d.done (p / 8192) (omega arith) (omega arith) (p % 8192) (omega arith) (omega arith)
