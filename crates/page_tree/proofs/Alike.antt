-- Rows of pages that are alike, whole and by parts.
use Rattle.std.specs.Prelude.{◌≡◌, ℕ, ◌+◌, ◌*◌, ◌/◌, ◌%◌, ◌<◌, List, slice_index}
use Rattle.std.proofs.Common.{◌∙◌, sym, arith, subst}
use Rattle.std.proofs.lemmas.List.{ext_get_or}
use Rattle.page_store.specs.Bytes.{IsPage}
use Rattle.page_tree.specs.declared.branch.Branch.{Branch}
use Rattle.page_tree.specs.declared.tree.Tree.{Tree}
use Rattle.page_tree.specs.Blocks.{byte_in}
use Rattle.page_tree.specs.BlockRefs.{ref_row}
use Rattle.page_tree.specs.Branches.{block_at, branch_row}
use Rattle.page_tree.specs.BranchRefs.{limb_row}
use Rattle.page_tree.specs.Trees.{branch_at, tree_row}
use Rattle.page_tree.specs.Rows.{Row, SameRow}
use Rattle.page_tree.specs.Uniforms.{uniform_row}

pub turned : (n : ℕ) (r s : Row) → SameRow n r s → SameRow n s r
turned n r s h = record { permission = λ p low. sym (h.permission p low); byte = λ p k low. sym (h.byte p k low) }

-- pages with the same bytes at each place
pub same_bytes : (a b : List ℕ) → IsPage a → IsPage b → ((k : ℕ) → slice_index b k ≡ slice_index a k) → a ≡ b
same_bytes a b x y h = ext_get_or 0 a b (x.sized ∙ sym y.sized) (λ i low. sym (h i))

-- parts of n pages each, in a row
abbrev joined : ℕ → (ℕ → Row) → Row
joined n f = record { permission = λ p. (f (p / n)).permission (p % n); page = λ p. (f (p / n)).page (p % n); own = λ p. (f (p / n)).own (p % n) }

same_joined : (n m : ℕ) (f g : ℕ → Row) → ((p : ℕ) → p < m → (p / n < 128) × (p % n < n)) → ((i : ℕ) → i < 128 → SameRow n (f i) (g i)) → SameRow m (joined n f) (joined n g)
same_joined n m f g fit h = record {
  permission = λ p low. (h (p / n) (fit p low).0).permission (p % n) (fit p low).1;
  byte = λ p k low. (h (p / n) (fit p low).0).byte (p % n) k (fit p low).1;
}

same_part : (n m : ℕ) (f g : ℕ → Row) (i : ℕ) → ((j : ℕ) → j < n → (n * i + j < m) × ((n * i + j) / n ≡ i) × ((n * i + j) % n ≡ j)) → SameRow m (joined n f) (joined n g) → SameRow n (f i) (g i)
same_part n m f g i fit h = record {
  permission = λ j low.
      let at = fit j low in
      subst (λ k. (g k).permission j ≡ (f k).permission j) at.1 (subst (λ q. (g ((n * i + j) / n)).permission q ≡ (f ((n * i + j) / n)).permission q) at.2 (h.permission (n * i + j) at.0));
  byte = λ j b low.
      let at = fit j low in
      subst (λ k. byte_in ((g k).page j) b ≡ byte_in ((f k).page j) b) at.1 (subst (λ q. byte_in ((g ((n * i + j) / n)).page q) b ≡ byte_in ((f ((n * i + j) / n)).page q) b) at.2 (h.byte (n * i + j) b at.0));
}

block_fit : (p : ℕ) → p < 8192 → (p / 64 < 128) × (p % 64 < 64)
block_fit p low = (omega arith, omega arith)

block_in : (i : ℕ) → i < 128 → (j : ℕ) → j < 64 → (64 * i + j < 8192) × ((64 * i + j) / 64 ≡ i) × ((64 * i + j) % 64 ≡ j)
block_in i high j low = (omega arith, omega arith, omega arith)

branch_fit : (p : ℕ) → p < 1048576 → (p / 8192 < 128) × (p % 8192 < 8192)
branch_fit p low = (omega arith, omega arith)

branch_in : (i : ℕ) → i < 128 → (j : ℕ) → j < 8192 → (8192 * i + j < 1048576) × ((8192 * i + j) / 8192 ≡ i) × ((8192 * i + j) % 8192 ≡ j)
branch_in i high j low = (omega arith, omega arith, omega arith)

-- branches are alike where their blocks are, and blocks are where their branches are
pub blocks_same : (b c : Branch) → ((i : ℕ) → i < 128 → SameRow 64 (ref_row (block_at b i)) (ref_row (block_at c i))) → SameRow 8192 (branch_row b) (branch_row c)
blocks_same b c h = same_joined 64 8192 (λ i. ref_row (block_at b i)) (λ i. ref_row (block_at c i)) block_fit h

pub block_same : (b c : Branch) (i : ℕ) → i < 128 → SameRow 8192 (branch_row b) (branch_row c) → SameRow 64 (ref_row (block_at b i)) (ref_row (block_at c i))
block_same b c i low h = same_part 64 8192 (λ i. ref_row (block_at b i)) (λ i. ref_row (block_at c i)) i (block_in i low) h

pub blocks_uniform : (permission : ℕ) (b : Branch) → ((i : ℕ) → i < 128 → SameRow 64 (uniform_row permission) (ref_row (block_at b i))) → SameRow 8192 (uniform_row permission) (branch_row b)
blocks_uniform permission b h = same_joined 64 8192 (λ i. uniform_row permission) (λ i. ref_row (block_at b i)) block_fit h

pub block_uniform : (permission : ℕ) (b : Branch) (i : ℕ) → i < 128 → SameRow 8192 (uniform_row permission) (branch_row b) → SameRow 64 (uniform_row permission) (ref_row (block_at b i))
block_uniform permission b i low h = same_part 64 8192 (λ i. uniform_row permission) (λ i. ref_row (block_at b i)) i (block_in i low) h

-- and so are trees and their branches
pub branches_same : (t u : Tree) → ((i : ℕ) → i < 128 → SameRow 8192 (limb_row (branch_at t i)) (limb_row (branch_at u i))) → SameRow 1048576 (tree_row t) (tree_row u)
branches_same t u h = same_joined 8192 1048576 (λ i. limb_row (branch_at t i)) (λ i. limb_row (branch_at u i)) branch_fit h

pub branch_same : (t u : Tree) (i : ℕ) → i < 128 → SameRow 1048576 (tree_row t) (tree_row u) → SameRow 8192 (limb_row (branch_at t i)) (limb_row (branch_at u i))
branch_same t u i low h = same_part 8192 1048576 (λ i. limb_row (branch_at t i)) (λ i. limb_row (branch_at u i)) i (branch_in i low) h

pub branches_uniform : (permission : ℕ) (t : Tree) → ((i : ℕ) → i < 128 → SameRow 8192 (uniform_row permission) (limb_row (branch_at t i))) → SameRow 1048576 (uniform_row permission) (tree_row t)
branches_uniform permission t h = same_joined 8192 1048576 (λ i. uniform_row permission) (λ i. limb_row (branch_at t i)) branch_fit h

pub branch_uniform : (permission : ℕ) (t : Tree) (i : ℕ) → i < 128 → SameRow 1048576 (uniform_row permission) (tree_row t) → SameRow 8192 (uniform_row permission) (limb_row (branch_at t i))
branch_uniform permission t i low h = same_part 8192 1048576 (λ i. uniform_row permission) (λ i. limb_row (branch_at t i)) i (branch_in i low) h
