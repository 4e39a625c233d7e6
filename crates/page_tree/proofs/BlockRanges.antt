-- The pages of a branch after a range of its blocks is done.
use Rattle.std.specs.Prelude.{◌≡◌, ℕ, ◌+◌, ◌-◌, ◌*◌, ◌/◌, ◌%◌, ◌<◌, ◌≤◌, min, true, false, Option, None}
use Rattle.std.proofs.Common.{ap, sym, arith, subst, refl, inl, inr}
use Rattle.std.proofs.lemmas.Bool.{cases_eq}
use Rattle.page_store.specs.declared.PageRef.{PageRef}
use Rattle.page_tree.specs.declared.block_ref.BlockRef.{BlockRef}
use Rattle.page_tree.specs.declared.branch.Branch.{Branch}
use Rattle.page_tree.specs.Blocks.{is_own_in}
use Rattle.page_tree.specs.Rows.{SameRow, SameOwners, IsPermittedRow, IsClearedRow, IsTakenRow, IsReplacedRow}
use Rattle.page_tree.specs.BlockRefs.{ref_row, ref_permission, ref_page, ref_own, AreWholeIn}
use Rattle.page_tree.specs.Branches.{block_at, branch_own, branch_row, AreWholeBelow}
use Rattle.page_tree.specs.Cuts.{CutBlock, CutBranch}
use Rattle.page_tree.specs.Ready.{ReadyBlock, ReadyBranch, SameOtherBlocks}
use Rattle.page_tree.proofs.Spread.{IsDone, each, spread_blocks, replace_blocks}

-- all that a preparation keeps of a block
pub record IsKept (k : ℕ) (r s : BlockRef) : Type 0 where
  pub same : SameRow 64 (ref_row r) (ref_row s)
  pub own : SameOwners 64 (ref_row r) (ref_row s)
  pub whole : AreWholeIn r → AreWholeIn s

kept_same : (r : BlockRef) → IsKept 0 r r
kept_same r = record {
  same = record { permission = λ p low. refl; byte = λ p k low. refl };
  own = λ p low. refl;
  whole = λ w. w;
}

all_kept : (first i : ℕ) (a b : Branch) → IsDone IsKept first i (block_at a) (block_at b) → (k : ℕ) → IsKept 0 (block_at a k) (block_at b k)
all_kept first i a b d = each IsKept (λ k. IsKept 0) first i (block_at a) (block_at b) d (λ k x y h. record { same = h.same; own = h.own; whole = h.whole }) (λ k. kept_same)

pub kept_row : (first i : ℕ) (a b : Branch) → IsDone IsKept first i (block_at a) (block_at b) → SameRow 8192 (branch_row a) (branch_row b)
kept_row first i a b d = record {
  permission = λ p low. (all_kept first i a b d (p / 64)).same.permission (p % 64) (omega arith);
  byte = λ p k low. (all_kept first i a b d (p / 64)).same.byte (p % 64) k (omega arith);
}

pub kept_owners : (first i : ℕ) (a b : Branch) → IsDone IsKept first i (block_at a) (block_at b) → SameOwners 8192 (branch_row a) (branch_row b)
kept_owners first i a b d p low = (all_kept first i a b d (p / 64)).own (p % 64) (omega arith)

pub kept_whole : (first i : ℕ) (a b : Branch) → IsDone IsKept first i (block_at a) (block_at b) → AreWholeBelow a → AreWholeBelow b
kept_whole first i a b d whole k low = (all_kept first i a b d k).whole (whole k low)

-- a block is ready for what a range has of it
abbrev pub IsReady : ℕ → ℕ → ℕ → BlockRef → BlockRef → Type 0
IsReady from to k r s = ReadyBlock (from - 64 * k) (min (to - 64 * k) 64) s

pub ready_row : (from to i : ℕ) (a b : Branch) → i ≡ (to - 1) / 64 + 1 → IsDone (IsReady from to) (from / 64) i (block_at a) (block_at b) → ReadyBranch from to b
ready_row from to i a b last d k low before after = d.done k (omega arith) (omega arith)

-- a block is cut for what a range has of it
abbrev pub IsCut : ℕ → ℕ → ℕ → BlockRef → BlockRef → Type 0
IsCut from to k r s = CutBlock (from - 64 * k) (min (to - 64 * k) 64) s

pub cut_row : (from to i : ℕ) (a b : Branch) → i ≡ (to - 1) / 64 + 1 → IsDone (IsCut from to) (from / 64) i (block_at a) (block_at b) → CutBranch from to b
cut_row from to i a b last d k low before after = d.done k (omega arith) (omega arith)

-- what a range has of a block is permitted
pub record IsPermittedPart (from to right k : ℕ) (r s : BlockRef) : Type 0 where
  pub permitted : IsPermittedRow 64 (from - 64 * k) (min (to - 64 * k) 64) right (ref_row r) (ref_row s)
  pub whole : AreWholeIn r → AreWholeIn s
  pub ready : ReadyBlock (from - 64 * k) (min (to - 64 * k) 64) s

pub permitted_row : (from to right i : ℕ) (a b : Branch) → from < to → i ≡ (to - 1) / 64 + 1 → IsDone (IsPermittedPart from to right) (from / 64) i (block_at a) (block_at b) → IsPermittedRow 8192 from to right (branch_row a) (branch_row b)
permitted_row from to right i a b rise last d = record {
  permission = λ p low. spread_blocks (IsPermittedPart from to right) from to i (block_at a) (block_at b) ref_permission (λ k j. right) rise last d (λ k r s h j at. h.permitted.permission j at) p;
  page = λ p low. each (IsPermittedPart from to right) (λ n r s. (j : ℕ) → j < 64 → ref_page s j ≡ ref_page r j) (from / 64) i (block_at a) (block_at b) d (λ k x y h. h.permitted.page) (λ n x j at. refl) (p / 64) (p % 64) (omega arith);
  own = λ p low. each (IsPermittedPart from to right) (λ n r s. (j : ℕ) → j < 64 → ref_own s j ≡ ref_own r j) (from / 64) i (block_at a) (block_at b) d (λ k x y h. h.permitted.own) (λ n x j at. refl) (p / 64) (p % 64) (omega arith);
}

pub permitted_whole : (from to right i : ℕ) (a b : Branch) → IsDone (IsPermittedPart from to right) (from / 64) i (block_at a) (block_at b) → AreWholeBelow a → AreWholeBelow b
permitted_whole from to right i a b d whole k low = each (IsPermittedPart from to right) (λ n r s. AreWholeIn r → AreWholeIn s) (from / 64) i (block_at a) (block_at b) d (λ k x y h. h.whole) (λ n x w. w) k (whole k low)

pub permitted_ready : (from to right i : ℕ) (a b : Branch) → i ≡ (to - 1) / 64 + 1 → IsDone (IsPermittedPart from to right) (from / 64) i (block_at a) (block_at b) → ReadyBranch from to b
permitted_ready from to right i a b last d k low before after = (d.done k (omega arith) (omega arith)).ready

-- what a range has of a block is cleared
pub record IsClearedPart (from to k : ℕ) (r s : BlockRef) : Type 0 where
  pub cleared : IsClearedRow 64 (from - 64 * k) (min (to - 64 * k) 64) (ref_row r) (ref_row s)
  pub whole : AreWholeIn r → AreWholeIn s
  pub ready : ReadyBlock (from - 64 * k) (min (to - 64 * k) 64) s

pub cleared_row : (from to i : ℕ) (a b : Branch) → from < to → i ≡ (to - 1) / 64 + 1 → IsDone (IsClearedPart from to) (from / 64) i (block_at a) (block_at b) → IsClearedRow 8192 from to (branch_row a) (branch_row b)
cleared_row from to i a b rise last d = record {
  permission = λ p low. each (IsClearedPart from to) (λ n r s. (j : ℕ) → j < 64 → ref_permission s j ≡ ref_permission r j) (from / 64) i (block_at a) (block_at b) d (λ k x y h. h.cleared.permission) (λ n x j at. refl) (p / 64) (p % 64) (omega arith);
  page = λ p low. spread_blocks (IsClearedPart from to) from to i (block_at a) (block_at b) ref_page (λ k j. None) rise last d (λ k r s h j at. h.cleared.page j at) p;
  own = λ p low. spread_blocks (IsClearedPart from to) from to i (block_at a) (block_at b) ref_own (λ k j. false) rise last d (λ k r s h j at. h.cleared.own j at) p;
}

pub cleared_whole : (from to i : ℕ) (a b : Branch) → IsDone (IsClearedPart from to) (from / 64) i (block_at a) (block_at b) → AreWholeBelow a → AreWholeBelow b
cleared_whole from to i a b d whole k low = each (IsClearedPart from to) (λ n r s. AreWholeIn r → AreWholeIn s) (from / 64) i (block_at a) (block_at b) d (λ k x y h. h.whole) (λ n x w. w) k (whole k low)

pub cleared_ready : (from to i : ℕ) (a b : Branch) → i ≡ (to - 1) / 64 + 1 → IsDone (IsClearedPart from to) (from / 64) i (block_at a) (block_at b) → ReadyBranch from to b
cleared_ready from to i a b last d k low before after = (d.done k (omega arith) (omega arith)).ready

-- what a range has of a block is that of another block
pub record IsTakenPart (from to k : ℕ) (o r s : BlockRef) : Type 0 where
  pub taken : IsTakenRow 64 (from - 64 * k) (min (to - 64 * k) 64) (ref_row r) (ref_row o) (ref_row s)
  pub whole : AreWholeIn r → AreWholeIn o → AreWholeIn s
  pub ready : ReadyBlock (from - 64 * k) (min (to - 64 * k) 64) r → ReadyBlock (from - 64 * k) (min (to - 64 * k) 64) o → ReadyBlock (from - 64 * k) (min (to - 64 * k) 64) s

abbrev pub IsTakenOf : ℕ → ℕ → Branch → ℕ → BlockRef → BlockRef → Type 0
IsTakenOf from to o k r s = IsTakenPart from to k (block_at o k) r s

pub taken_row : (from to i : ℕ) (o a b : Branch) → from < to → i ≡ (to - 1) / 64 + 1 → IsDone (IsTakenOf from to o) (from / 64) i (block_at a) (block_at b) → IsTakenRow 8192 from to (branch_row a) (branch_row o) (branch_row b)
taken_row from to i o a b rise last d = record {
  permission = λ p low. spread_blocks (IsTakenOf from to o) from to i (block_at a) (block_at b) ref_permission (λ k j. ref_permission (block_at o k) j) rise last d (λ k r s h j at. h.taken.permission j at) p;
  page = λ p low. spread_blocks (IsTakenOf from to o) from to i (block_at a) (block_at b) ref_page (λ k j. ref_page (block_at o k) j) rise last d (λ k r s h j at. h.taken.page j at) p;
  own = λ p low. spread_blocks (IsTakenOf from to o) from to i (block_at a) (block_at b) ref_own (λ k j. ref_own (block_at o k) j) rise last d (λ k r s h j at. h.taken.own j at) p;
}

pub taken_whole : (from to i : ℕ) (o a b : Branch) → IsDone (IsTakenOf from to o) (from / 64) i (block_at a) (block_at b) → AreWholeBelow a → AreWholeBelow o → AreWholeBelow b
taken_whole from to i o a b d whole other k low = each (IsTakenOf from to o) (λ n r s. AreWholeIn r → AreWholeIn (block_at o n) → AreWholeIn s) (from / 64) i (block_at a) (block_at b) d (λ k x y h. h.whole) (λ n x w v. w) k (whole k low) (other k low)

pub taken_ready : (from to i : ℕ) (o a b : Branch) → i ≡ (to - 1) / 64 + 1 → IsDone (IsTakenOf from to o) (from / 64) i (block_at a) (block_at b) → ReadyBranch from to a → ReadyBranch from to o → ReadyBranch from to b
taken_ready from to i o a b last d mine theirs k low before after = (d.done k (omega arith) (omega arith)).ready (mine k low before after) (theirs k low before after)

-- no more is said than which blocks are the same
abbrev pub IsAny : ℕ → BlockRef → BlockRef → Type 0
IsAny k r s = Unit {0}

-- one page of one block is replaced
pub replaced_row : (at : ℕ) (kept : Option PageRef) (a b : Branch) → SameOtherBlocks (at / 64) a b → IsReplacedRow 64 (at % 64) kept (ref_row (block_at a (at / 64))) (ref_row (block_at b (at / 64))) → IsReplacedRow 8192 at kept (branch_row a) (branch_row b)
replaced_row at kept a b others one = record {
  permission = λ p low. elim (cases_eq (p / 64) (at / 64)) [
    | inl here ↦ subst (λ n. ref_permission (block_at b n) (p % 64) ≡ ref_permission (block_at a n) (p % 64)) (sym here) (one.permission (p % 64) (omega arith))
    | inr there ↦ ap (λ (r : BlockRef). ref_permission r (p % 64)) (others (p / 64) there)
  ];
  page = λ p low. replace_blocks at (block_at a) (block_at b) ref_page kept others one.page p;
  own = λ p low. replace_blocks at (block_at a) (block_at b) ref_own (is_own_in kept) others one.own p;
}

pub replaced_whole : (at : ℕ) (a b : Branch) → SameOtherBlocks (at / 64) a b → (AreWholeIn (block_at a (at / 64)) → AreWholeIn (block_at b (at / 64))) → AreWholeBelow a → AreWholeBelow b
replaced_whole at a b others one whole k low = elim (cases_eq k (at / 64)) [
  | inl here ↦ subst (λ n. AreWholeIn (block_at b n)) (sym here) (one (subst (λ n. AreWholeIn (block_at a n)) here (whole k low)))
  | inr there ↦ subst AreWholeIn (sym (others k there)) (whole k low)
]

-- all that freezing keeps of a block
pub record IsFrozen (k : ℕ) (r s : BlockRef) : Type 0 where
  pub same : SameRow 64 (ref_row r) (ref_row s)
  pub less : (j : ℕ) → j < 64 → ref_own s j ≡ true → ref_own r j ≡ true
  pub whole : AreWholeIn r → AreWholeIn s

frozen_same : (r : BlockRef) → IsFrozen 0 r r
frozen_same r = record {
  same = record { permission = λ p low. refl; byte = λ p k low. refl };
  less = λ j low own. own;
  whole = λ w. w;
}

all_frozen : (first i : ℕ) (a b : Branch) → IsDone IsFrozen first i (block_at a) (block_at b) → (k : ℕ) → IsFrozen 0 (block_at a k) (block_at b k)
all_frozen first i a b d = each IsFrozen (λ k. IsFrozen 0) first i (block_at a) (block_at b) d (λ k x y h. record { same = h.same; less = h.less; whole = h.whole }) (λ k. frozen_same)

pub frozen_row : (first i : ℕ) (a b : Branch) → IsDone IsFrozen first i (block_at a) (block_at b) → SameRow 8192 (branch_row a) (branch_row b)
frozen_row first i a b d = record {
  permission = λ p low. (all_frozen first i a b d (p / 64)).same.permission (p % 64) (omega arith);
  byte = λ p k low. (all_frozen first i a b d (p / 64)).same.byte (p % 64) k (omega arith);
}

pub frozen_less : (first i : ℕ) (a b : Branch) → IsDone IsFrozen first i (block_at a) (block_at b) → (p : ℕ) → p < 8192 → branch_own b p ≡ true → branch_own a p ≡ true
frozen_less first i a b d p low = (all_frozen first i a b d (p / 64)).less (p % 64) (omega arith)

pub frozen_whole : (first i : ℕ) (a b : Branch) → IsDone IsFrozen first i (block_at a) (block_at b) → AreWholeBelow a → AreWholeBelow b
frozen_whole first i a b d whole k low = (all_frozen first i a b d k).whole (whole k low)

-- what a range has of a block is not owned
abbrev pub IsShared : ℕ → ℕ → ℕ → BlockRef → BlockRef → Type 0
IsShared from to k r s = (j : ℕ) → from - 64 * k ≤ j → j < min (to - 64 * k) 64 → ref_own s j ≡ false

pub shared_row : (from to i : ℕ) (a b : Branch) → i ≡ (to - 1) / 64 + 1 → IsDone (IsShared from to) (from / 64) i (block_at a) (block_at b) → (p : ℕ) → from ≤ p → p < to → branch_own b p ≡ false
shared_row from to i a b last d p low high = d.done (p / 64) (omega arith) (omega arith) (p % 64) (omega arith) (omega arith)
