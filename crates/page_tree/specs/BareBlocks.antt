-- The permissions of 64 pages in a row of which no bytes are kept.
-- Our choice: how the code keeps a memory.
use Rattle.std.specs.Prelude.{◌≡◌, ℕ, ◌<◌, slice_index}
use Rattle.page_tree.specs.declared.bare_block.BareBlock.{BareBlock}
use Rattle.page_tree.specs.Blocks.{block_pages}

-- the permission of a page
abbrev pub bare_permission : BareBlock → ℕ → ℕ
bare_permission b j = slice_index b.permissions j

-- two of the same permissions
abbrev pub SameBare : BareBlock → BareBlock → Type 0
SameBare b c = (j : ℕ) → j < block_pages → bare_permission c j ≡ bare_permission b j
