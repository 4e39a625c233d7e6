use Rattle.page_tree.specs.BlockRows.{block_row}
use Rattle.page_tree.specs.Rows.{IsBareStretch}
use Rattle.page_tree.proofs.block.Block.bare_end.Given as goal

abbrev pub invariant-loop-j : goal.invariant-loop-j
invariant-loop-j l = IsBareStretch (block_row l.self) l.fn.page l.j
