use Rattle.std.proofs.Common.{arith}
use Rattle.space_mem.proofs.Copies.{moved_part}
use Rattle.space_mem.proofs.copying.move_some.Goals as goal

pub returns-then-count-ge-BRANCH_PAGES-clause-moved : goal.returns-then-count-ge-BRANCH_PAGES-clause-moved
returns-then-count-ge-BRANCH_PAGES-clause-moved c from first before =
    let done = c.in_ok-move_branch.ensures in
    moved_part c.args.source.now c.args.made.now c.move_branch.new.made 8192 c.args.at c.args.to from first before (omega arith) done.here done.bytes done.beside done.rest

pub returns-then-count-ge-BLOCK_PAGES-clause-moved : goal.returns-then-count-ge-BLOCK_PAGES-clause-moved
returns-then-count-ge-BLOCK_PAGES-clause-moved c from first before =
    let done = c.in_ok-move_block.ensures in
    moved_part c.args.source.now c.args.made.now c.move_block.new.made 64 c.args.at c.args.to from first before (omega arith) done.here done.bytes done.beside done.rest
