-- Parts that a range has all of are cut, and so is what is ready to be changed. A page that can be exchanged is ready to be changed.
use Rattle.std.specs.Prelude.{◌≡◌, ℕ, ◌+◌, ◌-◌, ◌*◌, ◌/◌, ◌%◌, min}
use Rattle.std.proofs.Common.{arith, subst}
use Rattle.std.proofs.lemmas.Bool.{false≢true}
use Rattle.page_tree.specs.declared.block_ref.BlockRef.{BlockRef}
use Rattle.page_tree.specs.declared.branch_ref.BranchRef.{BranchRef}
use Rattle.page_tree.specs.declared.tree_ref.TreeRef.{TreeRef}
use Rattle.page_tree.specs.declared.block_ref.BlockRef as block_ref
use Rattle.page_tree.specs.declared.branch_ref.BranchRef as branch_ref
use Rattle.page_tree.specs.declared.tree_ref.TreeRef as tree_ref
use Rattle.page_tree.specs.Branches.{block_at}
use Rattle.page_tree.specs.Trees.{branch_at}
use Rattle.page_tree.specs.Cuts.{CutBlock, CutLimb, CutRoot}
use Rattle.page_tree.specs.BlockRefs.{IsOwnBlock}
use Rattle.page_tree.specs.Replaceable.{ReplaceableLimb, ReplaceableRoot}
use Rattle.page_tree.specs.Ready.{IsAll, ReadyBlock, ReadyLimb, ReadyRoot}

pub all_block : (r : BlockRef) (from to : ℕ) → IsAll 64 from to → CutBlock from to r
all_block (block_ref.TheVariants.Uniform p) from to all = all
all_block (block_ref.TheVariants.Bare b) from to all = tt
all_block (block_ref.TheVariants.Shared b) from to all = all
all_block (block_ref.TheVariants.Own b) from to all = tt

pub all_limb : (r : BranchRef) (from to : ℕ) → IsAll 8192 from to → CutLimb from to r
all_limb (branch_ref.TheVariants.Uniform p) from to all = all
all_limb (branch_ref.TheVariants.Shared b) from to all = all
all_limb (branch_ref.TheVariants.Own b) from to all = λ i low before after. all_block (block_at b.value i) (from - 64 * i) (min (to - 64 * i) 64) (omega (arith, all.0), omega (arith, all.1, low))

pub all_root : (r : TreeRef) (from to : ℕ) → IsAll 1048576 from to → CutRoot from to r
all_root (tree_ref.TheVariants.Uniform p) from to all = all
all_root (tree_ref.TheVariants.Shared b) from to all = all
all_root (tree_ref.TheVariants.Own b) from to all = λ i low before after. all_limb (branch_at b.value i) (from - 8192 * i) (min (to - 8192 * i) 8192) (omega (arith, all.0), omega (arith, all.1, low))

pub ready_block : (r : BlockRef) (from to : ℕ) → ReadyBlock from to r → CutBlock from to r
ready_block (block_ref.TheVariants.Uniform p) from to ready = ready
ready_block (block_ref.TheVariants.Bare b) from to ready = tt
ready_block (block_ref.TheVariants.Shared b) from to ready = absurd ready
ready_block (block_ref.TheVariants.Own b) from to ready = tt

pub ready_limb : (r : BranchRef) (from to : ℕ) → ReadyLimb from to r → CutLimb from to r
ready_limb (branch_ref.TheVariants.Uniform p) from to ready = ready
ready_limb (branch_ref.TheVariants.Shared b) from to ready = absurd ready
ready_limb (branch_ref.TheVariants.Own b) from to ready = λ i low before after. ready_block (block_at b.value i) (from - 64 * i) (min (to - 64 * i) 64) (ready i low before after)

pub ready_root : (r : TreeRef) (from to : ℕ) → ReadyRoot from to r → CutRoot from to r
ready_root (tree_ref.TheVariants.Uniform p) from to ready = ready
ready_root (tree_ref.TheVariants.Shared b) from to ready = absurd ready
ready_root (tree_ref.TheVariants.Own b) from to ready = λ i low before after. ready_limb (branch_at b.value i) (from - 8192 * i) (min (to - 8192 * i) 8192) (ready i low before after)

pub own_block_ready : (r : BlockRef) (from to : ℕ) → IsOwnBlock r → ReadyBlock from to r
own_block_ready (block_ref.TheVariants.Uniform p) from to own = absurd (false≢true own)
own_block_ready (block_ref.TheVariants.Bare b) from to own = tt
own_block_ready (block_ref.TheVariants.Shared b) from to own = absurd (false≢true own)
own_block_ready (block_ref.TheVariants.Own b) from to own = tt

replaceable_limb : (r : BranchRef) (from to p : ℕ) → from ≡ p → to ≡ p + 1 → ReplaceableLimb p r → ReadyLimb from to r
replaceable_limb (branch_ref.TheVariants.Uniform q) from to p low high own = absurd own
replaceable_limb (branch_ref.TheVariants.Shared b) from to p low high own = absurd own
replaceable_limb (branch_ref.TheVariants.Own b) from to p low high own = λ i inside before after.
    let e : p / 64 ≡ i = omega (arith, low, high, before, after) in
    own_block_ready (block_at b.value i) (from - 64 * i) (min (to - 64 * i) 64) (subst (λ n. IsOwnBlock (block_at b.value n)) e own)

pub replaceable_root : (t : TreeRef) (p : ℕ) → ReplaceableRoot p t → ReadyRoot p (p + 1) t
replaceable_root (tree_ref.TheVariants.Uniform q) p own = absurd own
replaceable_root (tree_ref.TheVariants.Shared b) p own = absurd own
replaceable_root (tree_ref.TheVariants.Own b) p own = λ i inside before after.
    let e : p / 8192 ≡ i = omega (arith, before, after) in
    replaceable_limb (branch_at b.value i) (p - 8192 * i) (min (p + 1 - 8192 * i) 8192) (p % 8192) (omega (arith, e)) (omega (arith, e)) (subst (λ n. ReplaceableLimb (p % 8192) (branch_at b.value n)) e own)
