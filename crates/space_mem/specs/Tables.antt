-- The memory that a page table stands for.
-- Our choice: how the code keeps a memory.
use Rattle.std.specs.Prelude.{◌≡◌, ℕ, ◌/◌, ◌%◌, ◌<◌, ◌≤◌, true, cond, List, slice_index}
use Rattle.memory_model.specs.Sparse.{Sparse, no_values}
use Rattle.memory_model.specs.Memory.{Memory}
use Rattle.memory_model.specs.Ranges.{with_row}
use Rattle.memory_model.specs.Sizes.{greatest_permission, page_size, pages}
use Rattle.page_marks.specs.declared.marks.PageMarks.{PageMarks}
use Rattle.page_marks.specs.Marks.{AreBare, mark_of}
use Rattle.page_tree.specs.declared.tree_ref.TreeRef.{TreeRef}
use Rattle.page_tree.specs.Blocks.{byte_in}
use Rattle.page_tree.specs.TreeRefs.{root_permission, root_page, root_own, AreWholeRoot}
use Rattle.space_mem.specs.declared.table.PageTable.{PageTable}
use Rattle.space_mem.specs.Held.{Held}

-- the memory with these permissions of pages and these bytes of pages
abbrev pub memory_by : (ℕ → ℕ) → (ℕ → ℕ → ℕ) → Memory
memory_by permission byte = record {
  bytes = with_row no_values 0 (λ a. byte (a / page_size) (a % page_size)) 4294967296;
  permissions = with_row no_values 0 permission pages;
}

-- the memory that a tree of pages stands for
abbrev pub memory_of : TreeRef → Memory
memory_of t = memory_by (root_permission t) (λ p k. byte_in (root_page t p) k)

-- the pages that a tree owns
abbrev pub owned_of : TreeRef → Sparse
owned_of t = with_row no_values 0 (λ p. cond (root_own t p) 1 0) pages

-- the pages that are marked
abbrev pub marked_of : PageMarks → Sparse
marked_of m = with_row no_values 0 (mark_of m) pages

-- what contracts see of a page table
abbrev pub held_of : PageTable → Held
held_of t = record { memory = memory_of t.pages; owned = owned_of t.pages; dirty = marked_of t.dirty }

-- what every page table keeps: each page that is kept has the bytes of a page, permissions are up to the greatest, each page that is owned is
-- marked as dirty, and marks have no bytes
pub record IsTable (t : PageTable) : Type 0 where
  pub whole : AreWholeRoot t.pages
  pub permission : (p : ℕ) → p < pages → root_permission t.pages p ≤ greatest_permission
  pub marked : (p : ℕ) → p < pages → root_own t.pages p ≡ true → mark_of t.dirty p ≡ 1
  pub bare : AreBare t.dirty

-- one page has these bytes; all else is the same
pub record SetsPage (page : ℕ) (bytes : List ℕ) (t s : TreeRef) : Type 0 where
  pub permission : (p : ℕ) → p < pages → root_permission s p ≡ root_permission t p
  pub here : (k : ℕ) → byte_in (root_page s page) k ≡ slice_index bytes k
  pub other : (p k : ℕ) → p < pages → (p ≡ page → ⊥) → byte_in (root_page s p) k ≡ byte_in (root_page t p) k
