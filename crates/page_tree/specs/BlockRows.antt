-- A block's pages in a row.
-- Our choice: a restatement for proofs.
use Rattle.page_tree.specs.declared.block.Block.{Block}
use Rattle.page_tree.specs.Blocks.{page_in, permission_in, is_own_in}
use Rattle.page_tree.specs.Rows.{Row}

-- its pages in a row
abbrev pub block_row : Block → Row
block_row b = record { permission = permission_in b; page = page_in b; own = λ j. is_own_in (page_in b j) }
