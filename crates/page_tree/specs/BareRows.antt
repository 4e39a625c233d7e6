-- The pages in a row of a block that is permissions alone.
-- Our choice: a restatement for proofs.
use Rattle.std.specs.Prelude.{None, false}
use Rattle.page_tree.specs.declared.bare_block.BareBlock.{BareBlock}
use Rattle.page_tree.specs.BareBlocks.{bare_permission}
use Rattle.page_tree.specs.Rows.{Row}

-- its pages in a row
abbrev pub bare_row : BareBlock → Row
bare_row b = record { permission = bare_permission b; page = λ p. None; own = λ p. false }
